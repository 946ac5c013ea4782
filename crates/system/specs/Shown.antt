-- R9.3: what the nodes show is what they delivered, on a whole list of calls. At the end of every list in order, showing a slot at a node that was called
-- gives a payload if that node delivered it there by some call of the list, and only then; so at the end of every list of demand 3, the claim of RULES section
-- 14, no two correct nodes that were called show different payloads for one slot. Records are kept for one day, so this is about the slots of the system's day.
-- It is proved in proofs/Shown.antt.
-- Assumes nothing.
use Rattle.std.specs.Prelude.{◌≡◌, true, List, ℕ, ◌+◌, ◌<◌}
use Rattle.refusal.specs.Outcome.{Outcome, done}
use Rattle.config.specs.declared.Slot.{Slot}
use Rattle.config.specs.Config.{slot_of_day, place}
use Rattle.protocol.specs.Trace.{Trace}
use Rattle.record.specs.Record.{payload_at}
use Rattle.calls.specs.Showing.{delivered, delivered_part}
use Rattle.system.specs.Demand3.{Call, System, config_at, correct, delivers, buffer, ever, called, Assumed}
use Rattle.system.specs.Order.{Orderly}

-- what a node shows of a slot, in the buffer that the list leaves: where its payload stands, or a refusal; and the payload
module _ (s : System) (list : Trace Call) (node : ℕ) (slot : Slot) where
  abbrev pub shown_place : Outcome ℕ
  shown_place = delivered (config_at s node) slot (buffer s list node)

  abbrev pub shown_payload : List ℕ
  shown_payload = delivered_part (config_at s node) slot (buffer s list node)

-- What is shown was delivered, and what was delivered is shown, in its record (R9.2), whoever is faulty and whatever is forged. A node that was not called
-- has any bytes in its buffer.
abbrev pub ShownIsDelivered : Type 0
ShownIsDelivered =
    (s : System) (list : Trace Call) → Orderly s list
    → (u sender seq : ℕ) (payload : List ℕ) → u < s.shared.n → called s list u ≡ true
    → ((start : ℕ) → shown_place s list u (slot_of_day s.shared sender seq) ≡ done start
    → shown_payload s list u (slot_of_day s.shared sender seq) ≡ payload
    → ever s (delivers s (slot_of_day s.shared sender seq) payload) list u ≡ true)
    × (ever s (delivers s (slot_of_day s.shared sender seq) payload) list u ≡ true
    → (shown_place s list u (slot_of_day s.shared sender seq) ≡ done (place (config_at s u) (slot_of_day s.shared sender seq) + payload_at))
    × (shown_payload s list u (slot_of_day s.shared sender seq) ≡ payload))

-- So on a list of demand 3 two correct nodes that were called and show a slot show the same payload.
abbrev pub ShownAgrees : Type 0
ShownAgrees =
    (s : System) (list : Trace Call) → Assumed s list
    → (u v sender seq here there : ℕ) → correct s u ≡ true → correct s v ≡ true → called s list u ≡ true → called s list v ≡ true
    → shown_place s list u (slot_of_day s.shared sender seq) ≡ done here → shown_place s list v (slot_of_day s.shared sender seq) ≡ done there
    → shown_payload s list u (slot_of_day s.shared sender seq) ≡ shown_payload s list v (slot_of_day s.shared sender seq)
