-- What specs/Example.antt claims: the tests of proofs/ComputedTests.antt, and what was signed, announced and delivered, are computed over the list.
-- Assumes nothing.
use mathlib.Core.Path.{◌≡◌, refl, sym}
use mathlib.Core.Bool.{true}
use mathlib.Core.List.{List}
use Prim.Native.Nat.{ℕ, ◌-◌}
use native.Mathlib.Nat.{le_of_eq}
use lib.Dec.{eqb, lit<, lit≤}
use borrow.Author.Tests.{eqb-true}
use Rattle.signers.specs.Sets.{count}
use Rattle.refusal.specs.Outcome.{done}
use Rattle.protocol.specs.Update.{Noted, noted}
use Rattle.protocol.specs.Trace as trace
use Rattle.protocol.specs.Trace.{each}
use Rattle.system.specs.Demand3.{in_slot, correct, correct_count, opens, announces_in, announces, delivers_in, delivers, sends, sends_this, sends_in, signs, reaches, ever, Assumed}
use Rattle.system.specs.Example.{six_nodes, six, first_slot, first, second, third, gets, two_payloads, faulty_slot, correct_slot, opened, list, answer_to48, noted_at, reached, NotVacuous}
use Rattle.system.proofs.Computing.{calls-compute}
use Rattle.system.proofs.ComputedTests.{given-before, unforged-now, unforged-test, lawful-test, lawful-says, sent-test, sent-says}

-- what the list is tested for
passes : (lawful-test six list ≡ true)
    × (sent-test six (λ bundle. eqb (reached bundle) (correct_count six - six.shared.d)) list ≡ true)
    × (ever six (signs six (first_slot 5) second) list 4 ≡ true)
    × (each (ever six (delivers six (first_slot 5) first) list) 5 ≡ true)
    × (answer_to48 ≡ done (noted, 2))
    × (noted_at 0 ≡ Noted 48 second)
    × (noted_at 4 ≡ Noted 48 second)
    × (ever six (announces six (first_slot 0) third) list 0 ≡ true)
    × (each (ever six (delivers six (first_slot 0) third) list) 5 ≡ true)
unfolding six_nodes six first_slot first second third gets two_payloads faulty_slot correct_slot opened list answer_to48 calls-compute in_slot correct correct_count opens announces_in announces delivers_in delivers sends sends_in signs
    reaches count each trace.ever given-before unforged-now unforged-test lawful-test sent-test
passes = (refl, refl, refl, refl, refl, refl, refl, refl, refl)

assumed : Assumed six list
unfolding calls-compute six_nodes six count
assumed = record { configured = refl; dated = lit< tt; few = lit≤ tt; lawful = lawful-says six list passes.0 }

-- a bundle that was sent reached c - d correct nodes
exactly : (u : ℕ) (bundle : List ℕ) → ever six (sends_this six bundle) list u ≡ true → reached bundle ≡ correct_count six - six.shared.d
exactly u bundle sent = eqb-true _ _ (sent-says six (λ bundle. eqb (reached bundle) (correct_count six - six.shared.d)) list u bundle passes.1 sent)

pub not-vacuous : NotVacuous
not-vacuous = (
  assumed,
  λ u bundle fine sent. le_of_eq (sym (exactly u bundle sent)),
  λ u bundle fine sent. exactly u bundle sent,
  passes.2,
  passes.3,
  passes.4,
  passes.5,
  passes.6,
  passes.7,
  passes.8,
)
