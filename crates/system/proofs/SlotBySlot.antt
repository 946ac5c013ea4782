-- That delivery slot by slot (R14.18) says more than R14.17: the list of specs/SlotBySlot.antt, computed.
-- Assumes nothing.
use mathlib.Core.Path.{◌≡◌, refl}
use mathlib.Core.Bool.{Bool, true}
use mathlib.Core.List.{List}
use Prim.Native.Nat.{ℕ, ◌-◌, ◌≤◌}
use native.Mathlib.Omega.{arith}
use lib.Dec.{leb, lit<, lit≤}
use borrow.Author.Tests.{leb-true}
use Rattle.signers.specs.Sets.{count, both}
use Rattle.bundle.specs.Bundle.{bundle_of, header_of_day}
use Rattle.protocol.specs.Trace as trace
use Rattle.protocol.specs.Trace.{each}
use Rattle.protocol.proofs.ComputedTests.{implies, implies-says}
use Rattle.system.specs.Demand3.{in_slot, correct, correct_count, opens, announces_in, announces, delivers_in, delivers, sends, sends_this, sends_in, signs, reaches, ever, Assumed, Reached}
use Rattle.system.specs.SlotBySlot.{one_node, alone, slot_at, second_lost, SaysMore}
use Rattle.system.specs.Example.{first}
use Rattle.system.proofs.Computing.{calls-compute}
use Rattle.system.proofs.ComputedTests.{given-before, unforged-now, unforged-test, lawful-test, lawful-says, sent-test, sent-says}

-- a bundle of the first slot has reached all but d of the correct nodes
near : (bundle : List ℕ) → Bool
near bundle = leb (correct_count alone - alone.shared.d) (count (both (correct alone) (ever alone (reaches alone bundle) second_lost)) alone.shared.n)

-- what the list is tested for
passes : (lawful-test alone second_lost ≡ true)
    × (sent-test alone (λ bundle. implies (in_slot (slot_at 0) bundle) (near bundle)) second_lost ≡ true)
    × (ever alone (announces alone (slot_at 0) first) second_lost 0 ≡ true)
    × (ever alone (announces alone (slot_at 1) first) second_lost 0 ≡ true)
    × (ever alone (delivers alone (slot_at 0) first) second_lost 0 ≡ true)
unfolding near one_node alone first slot_at second_lost calls-compute in_slot correct correct_count opens announces_in announces delivers_in delivers sends sends_in signs
    reaches count each trace.ever given-before unforged-now unforged-test lawful-test sent-test
passes = (refl, refl, refl, refl, refl)

assumed : Assumed alone second_lost
unfolding calls-compute one_node alone count
assumed = record { configured = refl; dated = lit< tt; few = lit≤ tt; lawful = lawful-says alone second_lost passes.0 }

-- the second announcement's bundle reached nobody
lost : Reached alone second_lost → ⊥
unfolding one_node alone first slot_at second_lost calls-compute in_slot correct correct_count sends sends_this reaches count trace.ever
lost reached = let none : 1 ≤ 0 = reached 0 (bundle_of (header_of_day one_node 0 1 1) first) refl refl in absurd (omega arith)

pub says-more : SaysMore
unfolding near
says-more = (
  assumed,
  lost,
  λ u bundle fine here sent.
      leb-true _ _
      (implies-says _ _ (sent-says alone (λ bundle. implies (in_slot (slot_at 0) bundle) (near bundle)) second_lost u bundle passes.1 sent) here),
  passes.2,
  passes.3,
  passes.4,
)
