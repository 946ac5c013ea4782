-- A run as a list of the calls of demand 3, the claim of RULES section 14. Each step is the call that it stands for (R15.8): it leaves the records that this
-- call leaves, and its answer says whether the call announces, delivers or sends. A run opens each node first and once (R15.2, R14.4). So its calls at the
-- correct nodes are lawful, where buffers have the right length and no signature of a correct node is forged (R14.6). Demand 3 asks besides for a good
-- configuration and at most t faulty nodes. These laws are proved in proofs/Calls.antt, the last in proofs/Shown.antt.
-- Assumes nothing.
use Rattle.std.specs.Prelude.{◌≡◌, Bool, true, false, not, cond, ◌&&◌, List, ◌∷◌, ℕ, ◌^◌, ◌<◌, length, None}
use Rattle.octets.specs.Octets.{same}
use Rattle.signers.specs.Sets.{NodeSet, count}
use Rattle.refusal.specs.Outcome.{Outcome, after}
use Rattle.payload.specs.Payload.{bytes}
use Rattle.config.specs.declared.Config.{Config}
use Rattle.config.specs.Config.{good, records_size, with_own, slot_of_day, same_slot}
use Rattle.protocol.specs.Update as answers
use Rattle.calls.specs.Showing as shown
use Rattle.protocol.specs.Trace.{Trace, start, ◌then◌calls◌}
use Rattle.system.specs.Demand3 as demand3
use Rattle.system.specs.Demand3.{Call, System, correct, records_after, opens, announces_in, delivers_in, delivers, sends, buffer, ever, times, called, Unforged, Lawful, config_at}
use Rattle.row.specs.declared.Step.{Step}
use Rattle.row.specs.declared.Step.TheVariants.{Broadcast, Receive}
use Rattle.row.specs.Row.{row_in}
use Rattle.step.specs.Step.{call_of, answer_of, records_by}
use Rattle.config.specs.declared.Slot.{Slot}
use Rattle.run_trace.specs.RunTrace.{system_of, with_rows, calls_of, delivered_count}

-- ---- a step is a call

-- the answer passes a test; a refusal passes none
abbrev pub passes : (test : answers.Answer → Bool) (reply : Outcome (answers.Answer × ℕ)) → Bool
passes test reply = after reply (λ answer. test answer.0) false

-- the answer of a broadcast
abbrev pub is_announced : answers.Answer → Bool
is_announced answers.announced = true
is_announced answers.kept = false
is_announced answers.signed = false
is_announced answers.delivered = false
is_announced answers.noted = false

-- the step gives its node a bundle of this slot; the payload that it broadcasts or gives
abbrev pub gives : Config → (slot : Slot) (step : Step) → Bool
gives config slot (Broadcast p) = false
gives config slot (Receive sender seq signers p) = same_slot (slot_of_day config sender seq) slot

abbrev pub step_payload : (step : Step) → List ℕ
step_payload (Broadcast p) = bytes p
step_payload (Receive sender seq signers p) = bytes p

module _ (s : System) (u : ℕ) (step : Step) (records : List ℕ) where
  -- the call on the list, and the answer that is printed
  abbrev pub call : Call
  call = call_of s.shared step

  abbrev pub reply : Outcome (answers.Answer × ℕ)
  reply = answer_of (with_own s.shared u) step records

  -- it leaves the records that the call leaves, and sends where the call sends (R14.9);
  -- it announces where the call announces, with some number (R14.7);
  -- it delivers where the call delivers, in the slot and with the payload that its row has (R14.8)
  pub record IsCall : Type 0 where
    pub leaves : records_by (with_own s.shared u) step records ≡ records_after s u call records
    pub sent : passes answers.sends reply ≡ sends s u call records
    pub announced : passes is_announced reply ≡ true → (slot : Slot) × (announces_in s slot u call records ≡ true)
    pub announcing : (slot : Slot) → announces_in s slot u call records ≡ true → passes is_announced reply ≡ true
    pub announced_this : (slot : Slot) (payload : List ℕ) → demand3.announces s slot payload u call records ≡ (announces_in s slot u call records && same (step_payload step) payload)
    pub delivered : (slot : Slot) → delivers_in s slot u call records ≡ (passes answers.delivers reply && gives s.shared slot step)
    pub delivered_this : (slot : Slot) (payload : List ℕ)
        → delivers s slot payload u call records ≡ (delivers_in s slot u call records && same (step_payload step) payload)

-- R15.8: every step, at any node and on any records, does what the call does that it stands for
abbrev pub RowIsCall : Type 0
RowIsCall = (s : System) (u : ℕ) (step : Step) (records : List ℕ) → IsCall s u step records

-- R15.10: a row that is not read makes no call
abbrev pub UnreadIsNone : Type 0
UnreadIsNone =
    (config : Config) (before : Trace Call) (line : List ℕ) (others : List (List ℕ)) → row_in config.n line ≡ None
    → with_rows config before (line ∷ others) ≡ with_rows config before others

-- ---- any records before the opening

-- the buffers of the nodes have the right length
abbrev pub Sized : System → Type 0
Sized s = (u : ℕ) → u < s.shared.n → length (s.buffers u) ≡ records_size s.shared

-- a run leaves the same records whatever the buffers held before (R14.5)
abbrev pub RunRecords : Type 0
RunRecords =
    (s : System) (rows : List (List ℕ)) → good s.shared ≡ true → Sized s
    → (u : ℕ) → u < s.shared.n → buffer s (calls_of s.shared rows) u ≡ buffer (system_of s.shared) (calls_of s.shared rows) u

-- ---- a run is a list of demand 3

-- the calls at the nodes of a set, and no others: a list of demand 3 has the calls at correct nodes alone (R14.3), and a run may have rows at any node
unfoldable pub calls_at : (set : NodeSet) (list : Trace Call) → Trace Call
calls_at set start = start
calls_at set (earlier then u calls call) = cond (set u) (calls_at set earlier then u calls call) (calls_at set earlier)

-- at such a node they come to the same
abbrev pub CallsAtSame : Type 0
CallsAtSame =
    (s : System) (set : NodeSet) (list : Trace Call) (u : ℕ) → set u ≡ true
    → (buffer s (calls_at set list) u ≡ buffer s list u)
    × ((test : ℕ → Call → List ℕ → Bool) → ever s test (calls_at set list) u ≡ ever s test list u)
    × ((test : ℕ → Call → List ℕ → Bool) → times s test (calls_at set list) u ≡ times s test list u)

module _ (s : System) where
  -- R14.4, as `Lawful` asks it: a call is an opening where no call was at that node before, and only there
  abbrev pub EachOpensFirstAndOnce : Trace Call → Type 0
  EachOpensFirstAndOnce start = Unit
  EachOpensFirstAndOnce (earlier then u calls call) = EachOpensFirstAndOnce earlier × (opens s u call (buffer s earlier u) ≡ not (called s earlier u))

  -- R14.6, at each call
  abbrev pub AllUnforged : Trace Call → Type 0
  AllUnforged start = Unit
  AllUnforged (earlier then u calls call) = AllUnforged earlier × Unforged s earlier u call

-- a run opens each node first and once, and so do its calls at the nodes of any set
abbrev pub RunOpensFirst : Type 0
RunOpensFirst =
    (s : System) (rows : List (List ℕ))
    → EachOpensFirstAndOnce s (calls_of s.shared rows) × ((set : NodeSet) → EachOpensFirstAndOnce s (calls_at set (calls_of s.shared rows)))

-- so the calls of a run at the correct nodes are lawful, where buffers have the right length and no signature of a correct node is forged
abbrev pub RunLawful : Type 0
RunLawful =
    (s : System) (rows : List (List ℕ)) → Sized s → AllUnforged s (calls_at (correct s) (calls_of s.shared rows))
    → Lawful s (calls_at (correct s) (calls_of s.shared rows))

-- ---- what the last rows count

-- the node shows a payload in the slot after a list of calls, and how many nodes do
unfoldable pub shows_after : (config : Config) (list : Trace Call) (sender seq node : ℕ) → Bool
shows_after config list sender seq node =
    after (shown.delivered (config_at (system_of config) node) (slot_of_day config sender seq) (buffer (system_of config) list node)) (λ place. true) false

unfoldable pub shown_after : (config : Config) (list : Trace Call) (sender seq : ℕ) → ℕ
shown_after config list sender seq = count (shows_after config list sender seq) config.n

-- R16.4, R9.3: the nodes that the last rows count, answered delivered by some call of the run, are those that show a payload at its end, whoever signed what
abbrev pub DeliveredAreShown : Type 0
DeliveredAreShown =
    (config : Config) (rows : List (List ℕ)) → good config ≡ true → config.day < 2 ^ 32
    → (sender seq : ℕ)
    → ((u : ℕ) → u < config.n
    → shows_after config (calls_of config rows) sender seq u
    ≡ ever (system_of config) (delivers_in (system_of config) (slot_of_day config sender seq)) (calls_of config rows) u)
    × (shown_after config (calls_of config rows) sender seq ≡ delivered_count config (calls_of config rows) sender seq)
