-- The examples of R18.3, by one test computed over the list. Assumes nothing.
use mathlib.Core.Path.{◌≡◌, refl, sym, ap₂}
use mathlib.Core.Bool.{Bool, true, false, ◌&&◌, and-eq-true_iff, true≢false}
use mathlib.Core.List.{List, [], ◌∷◌}
use lib.IntN.{ℤ}
use lib.Signed.{le_z}
use Rattle.octets.specs.Octets.{same, number}
use Rattle.octets.proofs.ComputedTests.{every, every-says}
use Rattle.signed.specs.Signed.{signed}
use Rattle.signed.proofs.Order.{le-both}
use Rattle.setpoint.specs.Setpoint.{is_setpoint, hundredths, setpoint_in}
use Rattle.setpoint.specs.Examples.{Row, examples, ExamplesHold}

-- two lists of values are one
equal : List ℤ → List ℤ → Bool
equal [] [] = true
equal [] (y ∷ ys) = false
equal (x ∷ xs) [] = false
equal (x ∷ xs) (y ∷ ys) = (le_z x y && le_z y x) && equal xs ys

equal-says : (xs ys : List ℤ) → equal xs ys ≡ true → xs ≡ ys
unfolding equal
equal-says [] [] h = refl
equal-says [] (y ∷ ys) h = absurd (true≢false (sym h))
equal-says (x ∷ xs) [] h = absurd (true≢false (sym h))
equal-says (x ∷ xs) (y ∷ ys) h =
    let parts = (and-eq-true_iff _ _).0 h in
    let both = (and-eq-true_iff _ _).0 parts.0 in
    ap₂ ◌∷◌ (le-both x y both.0 both.1) (equal-says xs ys parts.1)

holds : Row → Bool
holds row = equal (setpoint_in row.payload) row.says

all_hold : every holds examples ≡ true
unfolding holds equal examples setpoint_in is_setpoint hundredths signed same number
all_hold = refl

pub examples-hold : ExamplesHold
unfolding holds
examples-hold row m = equal-says _ _ (every-says holds m all_hold)
