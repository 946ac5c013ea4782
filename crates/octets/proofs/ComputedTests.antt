-- Facts from tests: about every member of a written-out list, from one that is computed, and that two tests agree.
-- Assumes nothing.
use mathlib.Core.Path.{◌≡◌, refl, sym, ap, ◌∙◌}
use mathlib.Core.Bool.{Bool, true, false, ◌&&◌, beq, and-eq-true_iff}
use mathlib.Core.List.{List, [], ◌∷◌, Memᴰ}

module _ {A : Type 0} where
  -- the test passes at every member
  abbrev pub every : (A → Bool) → List A → Bool
  every test [] = true
  every test (x ∷ xs) = test x && every test xs

  pub every-says : (test : A → Bool) {a : A} {xs : List A} → Memᴰ a xs → every test xs ≡ true → test a ≡ true
  every-says test (Memᴰ.head {x = x} {xs = xs} same) e = ap test same ∙ ((and-eq-true_iff (test x) (every test xs)).0 e).0
  every-says test (Memᴰ.tail {x = x} {xs = xs} m) e = every-says test m ((and-eq-true_iff (test x) (every test xs)).0 e).1

-- two tests that agree, by a test that is computed
pub agree-says : (a b : Bool) → beq a b ≡ true → a ≡ b
agree-says true true e = refl
agree-says true false e = sym e
agree-says false true e = e
agree-says false false e = refl

-- two tests agree where each passes if the other does
pub agree-both : (a b : Bool) → (a ≡ true → b ≡ true) → (b ≡ true → a ≡ true) → a ≡ b
agree-both true b there back = sym (there refl)
agree-both false true there back = back refl
agree-both false false there back = refl
