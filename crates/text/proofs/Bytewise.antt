-- The library's comparison of two lists is the test `same`.
-- Assumes nothing.
use Rattle.std.proofs.Common.{◌≡◌, ℕ, ◌==◌, ◌&&◌, List, [], ◌∷◌, refl, ap}
use Rattle.std.specs.Cmp.Lexicographic.{pointwise}
use Rattle.octets.specs.Octets.{same}

pub bytewise : (xs ys : List ℕ) → pointwise ◌==◌ xs ys ≡ same xs ys
unfolding same
bytewise [] [] = refl
bytewise [] (y ∷ ys) = refl
bytewise (x ∷ xs) [] = refl
bytewise (x ∷ xs) (y ∷ ys) = ap (λ b. (x == y) && b) (bytewise xs ys)
