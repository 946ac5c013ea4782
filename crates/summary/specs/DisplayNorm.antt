-- The display norm, R16.8 of docs/RULES.md: the percent printed is the whole one nearest to the share, and where two are equally near the even one of them.
-- What is claimed of it is proved in proofs/DisplayNorm.antt.
-- Assumes nothing.
use Rattle.std.specs.Prelude.{◌≡◌, Bool, true, cond, ◌&&◌, ◌||◌, ℕ, zero, suc, ◌+◌, ◌-◌, ◌*◌, ◌%◌, ◌≤◌, ◌<◌, leb, ltb, eqb}
use mathlib.Core.List.{List, [], ◌∷◌, Memᴰ}

-- how far two numbers are apart: of the two differences one is 0, since subtraction stops there
unfoldable pub distance : (a b : ℕ) → ℕ
distance a b = (a - b) + (b - a)

-- In hundredths of a node, `delivered` nodes are 100 * delivered and p percent of n nodes are p * n; this is twice how far these are apart.
abbrev pub twice_off : (n delivered p : ℕ) → ℕ
twice_off n delivered p = 2 * distance (100 * delivered) (p * n)

-- R16.8: half a percent of n nodes is half of n hundredths, so p is nearest if twice that distance is at most n. Where it is n, a neighbour of p is as near, and
-- p passes only if it is even.
unfoldable pub nearest : (n delivered p : ℕ) → Bool
nearest n delivered p = leb (twice_off n delivered p) n && (ltb (twice_off n delivered p) n || eqb (p % 2) 0)

-- the first number from `from` on that passes the test, of `left` numbers; 0 if none of them does
unfoldable pub first : (test : ℕ → Bool) (from left : ℕ) → ℕ
first test from zero = 0
first test from (suc left) = cond (test from) from (first test (suc from) left)

-- R16.8: the p that is nearest. It is looked for from 0 to 100 * delivered, which is the share where n is 1, and the largest.
unfoldable pub percent : (n delivered : ℕ) → ℕ
percent n delivered = first (nearest n delivered) 0 (100 * delivered + 1)

-- ---- what is claimed of it

-- R16.8: the test means what its name says. No number is nearer than one that passes; and if another is as near, the one that passes is even.
abbrev pub NoneNearer : Type 0
NoneNearer = (n delivered p other : ℕ) → nearest n delivered p ≡ true → twice_off n delivered p ≤ twice_off n delivered other

abbrev pub EvenOfTwo : Type 0
EvenOfTwo =
    (n delivered p other : ℕ)
    → nearest n delivered p ≡ true
    → (p ≡ other → ⊥)
    → twice_off n delivered p ≡ twice_off n delivered other
    → p % 2 ≡ 0

-- R16.8: of one node or more `percent` passes, and no other number
abbrev pub OneNearest : Type 0
OneNearest = (n delivered p : ℕ) → 0 < n → nearest n delivered p ≡ eqb p (percent n delivered)

-- R16.10: of no nodes it is 0, whatever is counted
abbrev pub PercentOfNone : Type 0
PercentOfNone = (delivered : ℕ) → percent 0 delivered ≡ 0

-- R16.11: of one node or more, and fewer than 200, only all are 100 percent, and only none are 0
abbrev pub EndsAreExact : Type 0
EndsAreExact = (n delivered : ℕ) → 0 < n → n < 200 → (eqb (percent n delivered) 100 ≡ eqb delivered n) × (eqb (percent n delivered) 0 ≡ eqb delivered 0)

-- and of 200 nodes 199 are 100 percent too, and 1 is 0
abbrev pub EndsAreTight : Type 0
EndsAreTight = (percent 200 199 ≡ 100) × (percent 200 1 ≡ 0)

-- so many of n nodes, and the percent that is printed of them
pub record Share : Type 0 where
  pub n : ℕ
  pub delivered : ℕ
  pub printed : ℕ

abbrev share : ℕ → ℕ → ℕ → Share
share n delivered printed = record { n = n; delivered = delivered; printed = printed }

-- R16.9: the four halves of eight nodes, and two shares that are no halves
unfoldable pub shares : List Share
shares = share 8 1 12 ∷ share 8 3 38 ∷ share 8 5 62 ∷ share 8 7 88 ∷ share 3 1 33 ∷ share 3 2 67 ∷ []

-- one fact that ranges over the list (R17.6)
abbrev pub SharesHold : Type 0
SharesHold = (share : Share) → Memᴰ share shares → percent share.n share.delivered ≡ share.printed
