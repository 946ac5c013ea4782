-- What specs/Stricter.antt claims, computed over the list. Assumes nothing.
use mathlib.Core.Path.{◌≡◌, refl, sym}
use mathlib.Core.Bool.{true, not}
use mathlib.Core.List.{List}
use Prim.Native.Nat.{ℕ, ◌-◌}
use native.Mathlib.Nat.{le_of_eq}
use lib.Dec.{eqb, lit<, lit≤}
use borrow.Author.Tests.{eqb-true}
use Rattle.signers.specs.Sets.{count, both}
use Rattle.config.specs.Config.{with_quorum}
use Rattle.protocol.specs.Trace as trace
use Rattle.protocol.specs.Trace.{each}
use Rattle.system.specs.Demand3.{in_slot, correct, correct_count, opens, announces_in, announces, delivers_in, delivers, sends, sends_in, signs, reaches, ever, Assumed}
use Rattle.system.specs.Stricter.{three_nodes, three, announcement, slot, gets, early, list, StricterNotVacuous}
use Rattle.system.proofs.Computing.{calls-compute}
use Rattle.system.proofs.ComputedTests.{given-before, unforged-now, unforged-test, lawful-test, lawful-says, sent-test, sent-says}

-- how many correct nodes the bundle has reached
abbrev reached : (bundle : List ℕ) → ℕ
reached bundle = count (both (correct (three 3)) (ever (three 3) (reaches (three 3) bundle) list)) (three 3).shared.n

-- what the list is tested for
passes : (lawful-test (three 3) list ≡ true)
    × (sent-test (three 3) (λ bundle. eqb (reached bundle) (correct_count (three 3) - (three 3).shared.d)) list ≡ true)
    × (ever (three 3) (announces (three 3) slot announcement) list 0 ≡ true)
    × (each (ever (three 3) (delivers (three 3) slot announcement) list) 3 ≡ true)
    × (each (λ node. not (ever (three 3) (delivers (three 3) slot announcement) early node)) 3 ≡ true)
    × (each (ever (three 2) (delivers (three 2) slot announcement) early) 3 ≡ true)
unfolding with_quorum three_nodes three announcement slot gets early list calls-compute in_slot correct correct_count opens announces_in announces delivers_in delivers sends sends_in signs
    reaches count each trace.ever given-before unforged-now unforged-test lawful-test sent-test
passes = (refl, refl, refl, refl, refl, refl)

assumed : Assumed (three 3) list
unfolding calls-compute with_quorum three_nodes three count
assumed = record { configured = refl; dated = lit< tt; few = lit≤ tt; lawful = lawful-says (three 3) list passes.0 }

pub stricter-not-vacuous : StricterNotVacuous
stricter-not-vacuous = (
  lit< tt,
  assumed,
  λ u bundle fine sent.
      le_of_eq (sym (eqb-true _ _ (sent-says (three 3) (λ bundle. eqb (reached bundle) (correct_count (three 3) - (three 3).shared.d)) list u bundle passes.1 sent))),
  passes.2,
  passes.3,
  passes.4,
  passes.5,
)
