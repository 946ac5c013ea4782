-- Lists of calls in order: what demand 3, the claim of RULES section 14, assumes but for the number of faults and for signatures (R14.6). Some laws need no
-- more, and hold whoever is faulty and whatever is forged: R4.6, and the counts of R14.18. That 23 does not come (R13.6) asks besides that the bundle given is
-- genuine. They are proved in proofs/Simulation.antt, proofs/Demand3.antt and proofs/OrderlyRefusals.antt.
-- Assumes nothing.
use Rattle.std.specs.Prelude.{◌≡◌, true, not, List, ℕ, ◌≤◌, ◌<◌, ◌^◌, length}
use Rattle.refusal.specs.Outcome.{refused}
use Rattle.config.specs.declared.Slot.{Slot}
use Rattle.config.specs.Config.{good, records_size}
use Rattle.protocol.specs.Trace.{Trace, start, ◌then◌calls◌}
use Rattle.calls.specs.WellFormed.{all_well_formed}
use Rattle.calls.specs.Broadcast.{broadcast}
use Rattle.calls.specs.Receive.{receive}
use Rattle.calls.specs.Showing.{delivered}
use Rattle.system.specs.Demand3.{Call, Receive, System, config_at, correct, opens, announces_in, delivers_in, sends_in, buffer, times, called, Unforged, Assumed}

-- R14.4, R14.5: each call is at a node, faulty or not, whose buffer has the right length. It is an opening if no call was at that node before, and only then.
abbrev pub InOrder : (s : System) (list : Trace Call) → Type 0
InOrder s start = Unit
InOrder s (earlier then u calls call) =
    InOrder s earlier
    × (u < s.shared.n)
    × (length (s.buffers u) ≡ records_size (config_at s u))
    × (opens s u call (buffer s earlier u) ≡ not (called s earlier u))

pub record Orderly (s : System) (list : Trace Call) : Type 0 where
  pub configured : good (config_at s 0) ≡ true
  pub dated : s.shared.day < 2 ^ 32
  pub ordered : InOrder s list

-- Every list of demand 3 is one.
abbrev pub AssumedOrderly : Type 0
AssumedOrderly = (s : System) (list : Trace Call) → Assumed s list → Orderly s list

-- R14.18: on such a list no node delivers or announces twice in a slot, and none sends more than two bundles there.
abbrev pub CountsInOrder : Type 0
CountsInOrder =
    (s : System) (list : Trace Call) → Orderly s list → (u : ℕ) (slot : Slot)
    → (times s (delivers_in s slot) list u ≤ 1) × (times s (announces_in s slot) list u ≤ 1) × (times s (sends_in s slot) list u ≤ 2)

-- R4.6: after such a list the buffer of a node that was called has its length, and all records in it are well-formed.
abbrev pub RecordsWellFormed : Type 0
RecordsWellFormed =
    (s : System) (list : Trace Call) → Orderly s list → (u : ℕ) → u < s.shared.n → called s list u ≡ true
    → (length (buffer s list u) ≡ records_size (config_at s u)) × (all_well_formed (config_at s u) (buffer s list u) ≡ true)

-- R4.6: after such a list broadcasting, receiving and showing at a node that was called are not refused by 21, since all records there are well-formed. For
-- pooling see pool_trace's specs/Announced.antt, and for two nodes' records equivocators_trace's specs/Correct.antt.
abbrev pub NeverMalformed : Type 0
NeverMalformed =
    (s : System) (list : Trace Call) → Orderly s list → (u : ℕ) → u < s.shared.n → called s list u ≡ true
    → ((payload out : List ℕ) → broadcast (config_at s u) payload (buffer s list u) out ≡ refused 21 → ⊥)
    × ((bundle out : List ℕ) → receive (config_at s u) bundle (buffer s list u) out ≡ refused 21 → ⊥)
    × ((slot : Slot) → delivered (config_at s u) slot (buffer s list u) ≡ refused 21 → ⊥)

-- R13.6: nor is a genuine bundle refused by 23 there, if the node is correct: what the node signed it holds, or it has delivered the slot.
abbrev pub NeverOwnUnknown : Type 0
NeverOwnUnknown =
    (s : System) (list : Trace Call) → Orderly s list → (u : ℕ) → correct s u ≡ true → called s list u ≡ true
    → (bundle out : List ℕ) → Unforged s list u (Receive bundle out) → receive (config_at s u) bundle (buffer s list u) out ≡ refused 23 → ⊥
