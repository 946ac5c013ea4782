-- A choice by a test, where the test is known.
-- Assumes nothing.
use mathlib.Core.Path.{◌≡◌, refl}
use mathlib.Core.Bool.{Bool, true, false, cond}

module _ {A : Type 0} where
  pub chosen : (test : Bool) (x z : A) → test ≡ true → x ≡ cond test x z
  chosen test x z e = rw e

  pub refused : (test : Bool) (x z : A) → (test ≡ true → ⊥) → z ≡ cond test x z
  refused true x z not = absurd (not refl)
  refused false x z not = refl
