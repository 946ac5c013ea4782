-- R15.12: the list of calls that a run makes, openings and then a call for each step row that is read. They are the calls of demand 3, the claim of RULES section 14.
-- Assumes nothing.
use Rattle.std.specs.Prelude.{false, List, [], ◌∷◌, ℕ, zero, suc, replicate, Option, Some, None}
use Rattle.signers.specs.Sets.{count}
use Rattle.config.specs.declared.Config.{Config}
use Rattle.config.specs.Config.{records_size, slot_of_day}
use Rattle.protocol.specs.Trace.{Trace, start, ◌then◌calls◌}
use Rattle.system.specs.Demand3.{Call, Open, System, delivers_in, ever}
use Rattle.row.specs.declared.StepRow.{StepRow}
use Rattle.row.specs.Row.{row_in}
use Rattle.step.specs.Step.{call_of}

-- The nodes of a run. Which of them are faulty is not known to it, and what their buffers hold before the opening does not matter.
unfoldable pub system_of : Config → System
system_of config = record { shared = config; faulty = λ u. false; buffers = λ u. replicate (records_size config) 0 }

module _ (config : Config) where
  -- R15.2: the first nodes, so many, open the day
  unfoldable pub openings : (count : ℕ) → Trace Call
  openings zero = start
  openings (suc n) = openings n then n calls Open

  -- R15.10: the calls before a row, and then the row's own; an unread row makes none
  abbrev pub with_row : (before : Trace Call) (row : Option StepRow) → Trace Call
  with_row before None = before
  with_row before (Some row) = before then row.node calls call_of config row.step

  unfoldable pub with_rows : (before : Trace Call) (rows : List (List ℕ)) → Trace Call
  with_rows before [] = before
  with_rows before (line ∷ others) = with_rows (with_row before (row_in config.n line)) others

  -- the calls of a run with these step rows
  unfoldable pub calls_of : (rows : List (List ℕ)) → Trace Call
  calls_of rows = with_rows (openings config.n) rows

  -- R16.4, the printed column `units`: how many nodes have delivered the slot, whatever payload, by some call of the list that was answered delivered (R14.8).
  unfoldable pub delivered_count : (list : Trace Call) (sender seq : ℕ) → ℕ
  delivered_count list sender seq = count (ever (system_of config) (delivers_in (system_of config) (slot_of_day config sender seq)) list) config.n
