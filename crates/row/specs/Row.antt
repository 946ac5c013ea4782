-- The lines of a run file: R15.5 to R15.10 of docs/RULES.md. A unit is a node here, the number of a slot is `seq` and a body is a payload.
-- Assumes nothing.
use Rattle.std.specs.Prelude.{◌≡◌, Bool, false, cond, ◌&&◌, List, [], ℕ, ◌-◌, ◌^◌, leb, ltb, length, take, drop, Option, Some, None}
use Rattle.octets.specs.Octets.{same}
use Rattle.payload.specs.declared.Payload.{Payload}
use Rattle.config.specs.declared.Config.{Config}
use Rattle.config.specs.Config.{config_of, good}
use Rattle.text.specs.Text.{ascii, field, after_fields, value, plain_up_to, hex}
use Rattle.row.specs.declared.Step.TheVariants.{Broadcast, Receive}
use Rattle.row.specs.declared.StepRow.{StepRow}

-- R15.5: the two lines of names
unfoldable pub table_names : List ℕ
table_names = ascii "units faults losses day quorum"

unfoldable pub step_names : List ℕ
step_names = ascii "act unit sender number signers body"

-- ---- the table row

-- the configuration that the numbers of a table row give, at node 0: who plays it puts in each node's own number. The last number is all of the
-- line after the fields before it, so that a further field makes it no number.
unfoldable pub config_in : (line : List ℕ) → Config
config_in line =
    config_of
    (value 10 0 (field 0 line))
    (value 10 0 (field 1 line))
    (value 10 0 (field 2 line))
    0
    (value 10 0 (field 3 line))
    (value 10 0 (after_fields 4 line))

-- R15.6, but for the bound of 8 nodes: five plain numbers that fit their fields and make a good configuration
unfoldable pub is_table : (line : List ℕ) → Bool
is_table line =
    plain_up_to 255 (field 0 line)
    && (plain_up_to 255 (field 1 line)
    && (plain_up_to 255 (field 2 line)
    && (plain_up_to (2 ^ 32 - 1) (field 3 line)
    && (plain_up_to (2 ^ 32 - 1) (after_fields 4 line)
    && good (config_in line)))))

unfoldable pub table_in : (line : List ℕ) → Option Config
table_in line = cond (is_table line) (Some (config_in line)) None

-- R15.7: names without the fifth are not those of a table, and a row with fewer than five fields is none
abbrev pub FiveAreAsked : Type 0
FiveAreAsked = (same (ascii "units faults losses day") table_names ≡ false) × ((line : List ℕ) → after_fields 4 line ≡ [] → is_table line ≡ false)

-- ---- a step row

-- R15.8: `-`, for a field that act A does not have
unfoldable pub absent : (text : List ℕ) → Bool
absent text = same text (ascii "-")

-- the payload that 32 hexadecimal digits write: two words of 16 digits
unfoldable pub payload_of_digits : (digits : List ℕ) → Payload
payload_of_digits digits = record { high = value 16 0 (take 16 digits); low = value 16 0 (drop 16 digits) }

-- A row's six fields, by the names in `step_names`. The payload's is all of the line after the fifth, so that a seventh field is part of it.
module _ (line : List ℕ) where
  unfoldable pub act : List ℕ
  act = field 0 line

  unfoldable pub node : ℕ
  node = value 10 0 (field 1 line)

  unfoldable pub payload_digits : List ℕ
  payload_digits = after_fields 5 line

  -- the row of each act
  unfoldable pub broadcast_row : Option StepRow
  broadcast_row = Some (record { node = node; step = Broadcast (payload_of_digits payload_digits) })

  unfoldable pub receive_row : Option StepRow
  receive_row =
      Some (record {
        node = node;
        step = Receive (value 10 0 (field 2 line)) (value 10 0 (field 3 line)) (value 16 0 (field 4 line)) (payload_of_digits payload_digits);
      })

module _ (n : ℕ) (line : List ℕ) where
  -- R15.10: the row is at one of the n nodes
  unfoldable pub in_system : Bool
  in_system = plain_up_to 255 (field 1 line) && ltb (node line) n

  -- R15.8, R15.9: the fields after act A, a node, three that are absent, and the digits of a payload
  unfoldable pub broadcast_fields : Bool
  broadcast_fields =
      in_system
      && (absent (field 2 line)
      && (absent (field 3 line)
      && (absent (field 4 line)
      && hex 32 (payload_digits line))))

  -- and after act B, of which none is absent; sender and seq fit a byte (R15.10)
  unfoldable pub receive_fields : Bool
  receive_fields =
      in_system
      && (plain_up_to 255 (field 2 line)
      && (plain_up_to 255 (field 3 line)
      && (hex 16 (field 4 line)
      && hex 32 (payload_digits line))))

  -- R15.8: a row of each act
  unfoldable pub is_broadcast : Bool
  is_broadcast = same (act line) (ascii "A") && broadcast_fields

  unfoldable pub is_receive : Bool
  is_receive = same (act line) (ascii "B") && receive_fields

  -- R15.10: the row that a line gives, if it has at most 120 bytes and is of one act or the other; any other line is unread
  unfoldable pub row_in : Option StepRow
  row_in =
      cond (leb (length line) 120)
      (cond is_broadcast (broadcast_row line) (cond is_receive (receive_row line) None))
      None
