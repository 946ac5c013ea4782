-- The test `le_z` is a total order of the integers.
-- Assumes nothing.
use mathlib.Core.Path.{◌≡◌, refl, sym, ap}
use mathlib.Core.Bool.{true, false, true≢false}
use native.Mathlib.Omega.{arith}
use lib.IntN.{ℤ, pos, negsuc}
use lib.Signed.{le_z}
use borrow.Author.Tests.{leb-true, leb-false, le-leb}

-- each value is at most itself,
pub le-self : (a : ℤ) → le_z a a ≡ true
le-self (pos a) = le-leb a a (omega arith)
le-self (negsuc a) = le-leb a a (omega arith)

-- at most what is at least one that it is at most,
pub le_trans : (a b c : ℤ) → le_z a b ≡ true → le_z b c ≡ true → le_z a c ≡ true
le_trans (pos a) (pos b) (pos c) p q = le-leb a c (omega (arith, leb-true a b p, leb-true b c q))
le_trans (pos a) (pos b) (negsuc c) p q = q
le_trans (pos a) (negsuc b) (pos c) p q = let z : false ≡ true = p in cc
le_trans (pos a) (negsuc b) (negsuc c) p q = p
le_trans (negsuc a) (pos b) (pos c) p q = refl
le_trans (negsuc a) (pos b) (negsuc c) p q = let z : false ≡ true = q in cc
le_trans (negsuc a) (negsuc b) (pos c) p q = refl
le_trans (negsuc a) (negsuc b) (negsuc c) p q = le-leb c a (omega (arith, leb-true b a p, leb-true c b q))

-- and at least what it is not at most.
pub le_total : (a b : ℤ) → le_z a b ≡ false → le_z b a ≡ true
le_total (pos a) (pos b) p = le-leb b a (omega (arith, leb-false a b p))
le_total (pos a) (negsuc b) p = refl
le_total (negsuc a) (pos b) p = sym p
le_total (negsuc a) (negsuc b) p = le-leb a b (omega (arith, leb-false b a p))

-- Two values that are at most each other are one.
pub le-both : (a b : ℤ) → le_z a b ≡ true → le_z b a ≡ true → a ≡ b
le-both (pos a) (pos b) p q = ap pos (omega (arith, leb-true a b p, leb-true b a q))
le-both (pos a) (negsuc b) p q = absurd (true≢false (sym p))
le-both (negsuc a) (pos b) p q = absurd (true≢false (sym q))
le-both (negsuc a) (negsuc b) p q = ap negsuc (omega (arith, leb-true b a p, leb-true a b q))
