-- R14.18: demand 3, the claim of RULES section 14, with delivery slot by slot. R14.17 asks that every bundle which a correct node sent has reached nearly all,
-- so that one loss too many in one slot would void delivery in all of them. Here delivery in a slot is claimed from the bundles of that slot alone; the rest
-- is as in demand 3, which follows. It is proved in proofs/Demand3.antt, and that it says more in proofs/SlotBySlot.antt.
-- Assumes nothing.
use Rattle.std.specs.Prelude.{◌≡◌, ◌⊎◌, true, false, List, ℕ, replicate}
use Rattle.config.specs.declared.Config.{Config}
use Rattle.config.specs.declared.Slot.{Slot}
use Rattle.config.specs.Config.{config_for, slot_of_day, records_size}
use Rattle.bundle.specs.Bundle.{bundle_size, bundle_of, header_of_day}
use Rattle.protocol.specs.Trace.{Trace, start, ◌then◌calls◌}
use Rattle.system.specs.Demand3.{Call, Open, Broadcast, Receive, System, in_slot, correct, NearlyAll, announces, delivers, sends_this, reaches, ever, Assumed, Agreement, DeliversOnce, Validity, AnnouncesOnce, SendsAtMostTwice, Reached}
use Rattle.system.specs.Example.{first}

module _ (s : System) (list : Trace Call) where
  -- every bundle of the slot that a correct node sent has reached at least c - d correct nodes
  abbrev pub ReachedIn : (slot : Slot) → Type 0
  ReachedIn slot =
      (u : ℕ) (bundle : List ℕ) → correct s u ≡ true → in_slot slot bundle ≡ true → ever s (sends_this s bundle) list u ≡ true
      → NearlyAll s (ever s (reaches s bundle) list)

  -- what a correct node announced or delivered in the slot has been delivered by at least c - d correct nodes
  abbrev pub DeliveryIn : (slot : Slot) → Type 0
  DeliveryIn slot =
      (u : ℕ) (payload : List ℕ) → correct s u ≡ true
      → (ever s (announces s slot payload) list u ≡ true) ⊎ (ever s (delivers s slot payload) list u ≡ true)
      → NearlyAll s (ever s (delivers s slot payload) list)

  pub record ConcludedBySlot : Type 0 where
    pub agreement : Agreement s list
    pub delivers_once : DeliversOnce s list
    pub validity : Validity s list
    pub announces_once : AnnouncesOnce s list
    pub sends_at_most_twice : SendsAtMostTwice s list
    pub delivery : (slot : Slot) → ReachedIn slot → DeliveryIn slot

abbrev pub SlotBySlot : Type 0
SlotBySlot = (s : System) (list : Trace Call) → Assumed s list → ConcludedBySlot s list

-- ---- that it says more

-- a system of one node, and its slots
unfoldable pub one_node : Config
one_node = config_for 1 0 0 7

unfoldable pub alone : System
alone = record { shared = one_node; faulty = λ node. false; buffers = λ node. replicate (records_size one_node) 255 }

unfoldable pub slot_at : (seq : ℕ) → Slot
slot_at seq = slot_of_day one_node 0 seq

-- it announces twice; the first announcement comes back to it, and the second one reaches nobody
unfoldable pub second_lost : Trace Call
second_lost =
    start
    then 0 calls Open
    then 0 calls Broadcast first (replicate bundle_size 0)
    then 0 calls Receive (bundle_of (header_of_day one_node 0 0 1) first) (replicate bundle_size 0)
    then 0 calls Broadcast first (replicate bundle_size 0)

-- On this list demand 3 claims no delivery, and the first slot's is claimed here, and is had.
abbrev pub SaysMore : Type 0
SaysMore =
    Assumed alone second_lost
    × (Reached alone second_lost → ⊥)
    × ReachedIn alone second_lost (slot_at 0)
    × (ever alone (announces alone (slot_at 0) first) second_lost 0 ≡ true)
    × (ever alone (announces alone (slot_at 1) first) second_lost 0 ≡ true)
    × (ever alone (delivers alone (slot_at 0) first) second_lost 0 ≡ true)
