-- The display norm: at most one number is nearest, either the whole part of a share or the number above it is, and the search finds it.
-- Assumes nothing.
use mathlib.Core.Path.{◌≡◌, refl, sym, ap, ◌∙◌, subst}
use mathlib.Core.Bool.{Bool, true, false, cond, ◌||◌, and-eq-true_iff, true≢false}
use Prim.Native.Nat.{ℕ, zero, suc, ◌+◌, ◌-◌, ◌*◌, ◌/◌, ◌%◌, ◌≤◌, ◌<◌}
use native.Mathlib.Nat.{le_of_eq, add-zero, suc-mul, mul-zero, mul-le-mul_right, le-mul_of_pos_right, div-add-mod', mod-lt}
use native.Mathlib.Numerals.{add-one}
use native.Mathlib.Omega.{arith}
use lib.Dec.{leb, ltb, eqb}
use borrow.Author.Tests.{le-leb, leb-true, ltb-true, ltb-false, eq-eqb, eqb-true}
use Rattle.octets.proofs.ComputedTests.{every, every-says, agree-both}
use Rattle.summary.specs.DisplayNorm.{distance, twice_off, nearest, first, percent, NoneNearer, EvenOfTwo, OneNearest, PercentOfNone, EndsAreExact, EndsAreTight, Share, shares, SharesHold}

-- what the test says
pub record Nearest (n delivered p : ℕ) : Type 0 where
  pub close : twice_off n delivered p ≤ n
  pub half-even : twice_off n delivered p ≡ n → p % 2 ≡ 0

nearest-says : (n delivered p : ℕ) → nearest n delivered p ≡ true → Nearest n delivered p
unfolding nearest
nearest-says n delivered p e =
    let (near, rest) = (and-eq-true_iff (leb (twice_off n delivered p) n) _).0 e in
    record { close = leb-true _ _ near; half-even = λ half. go (ltb (twice_off n delivered p) n) refl rest half }
  where
    go : (b : Bool) → ltb (twice_off n delivered p) n ≡ b → (b || eqb (p % 2) 0) ≡ true → twice_off n delivered p ≡ n → p % 2 ≡ 0
    go true below rest half = let less = ltb-true (twice_off n delivered p) n below in absurd (omega arith)
    go false below rest half = eqb-true (p % 2) 0 rest

says-nearest : (n delivered p : ℕ) → Nearest n delivered p → nearest n delivered p ≡ true
unfolding nearest
says-nearest n delivered p near = (and-eq-true_iff (leb (twice_off n delivered p) n) _).1 (le-leb _ _ near.close, go (ltb (twice_off n delivered p) n) refl)
  where
    go : (b : Bool) → ltb (twice_off n delivered p) n ≡ b → (b || eqb (p % 2) 0) ≡ true
    go true below = refl
    go false below =
        let close = near.close in
        let least = ltb-false (twice_off n delivered p) n below in
        let half : twice_off n delivered p ≡ n = omega arith in
        eq-eqb (p % 2) 0 (near.half-even half)

-- ---- what nearest means

-- p times n and other times n are at least n apart
apart_above : (n p other : ℕ) → p < other → p * n + n ≤ other * n
apart_above n p other less =
    let step : suc p * n ≤ other * n = mul-le-mul_right n less in
    let next = suc-mul p n in
    omega arith

pub none-nearer : NoneNearer
unfolding distance
none-nearer n delivered p other e = go (ltb p other) refl (ltb other p) refl
  where
    near : twice_off n delivered p ≤ n
    near = (nearest-says n delivered p e).close

    go : (a : Bool) → ltb p other ≡ a → (b : Bool) → ltb other p ≡ b → twice_off n delivered p ≤ twice_off n delivered other
    go true above b below = omega (arith, near, apart_above n p other (ltb-true p other above))
    go false above true below = omega (arith, near, apart_above n other p (ltb-true other p below))
    go false above false below =
        let same : p ≡ other = omega (arith, ltb-false p other above, ltb-false other p below) in
        le_of_eq (ap (twice_off n delivered) same)

pub even-of-two : EvenOfTwo
unfolding distance
even-of-two n delivered p other e distinct tie = (nearest-says n delivered p e).half-even (go (ltb p other) refl)
  where
    near : twice_off n delivered p ≤ n
    near = (nearest-says n delivered p e).close

    go : (a : Bool) → ltb p other ≡ a → twice_off n delivered p ≡ n
    go true above = omega (arith, near, tie, apart_above n p other (ltb-true p other above))
    go false above =
        let less : other < p = omega (arith, ltb-false p other above, distinct) in
        omega (arith, near, tie, apart_above n other p less)

-- ---- at most one

-- of two numbers at least n apart that are both so near, the distance is n, and both are as far off as they may be
both-half : (n h a b : ℕ) → 2 * distance h a ≤ n → 2 * distance h b ≤ n → a + n ≤ b → (b ≡ a + n) × (2 * distance h a ≡ n) × (2 * distance h b ≡ n)
unfolding distance
both-half n h a b near-a near-b apart = (omega arith, omega arith, omega arith)

none_above : (n delivered p o : ℕ) → 0 < n → Nearest n delivered p → Nearest n delivered o → p < o → ⊥
none_above n delivered p o some near_p near-o less =
    let (same, half-p, half-o) = both-half n (100 * delivered) (p * n) (o * n) near_p.close near-o.close (apart_above n p o less) in
    let even-p = near_p.half-even half-p in
    let even-o = near-o.half-even half-o in
    let farther : suc p < o = omega arith in
    let two-apart = apart_above n (suc p) o farther in
    let next = suc-mul p n in
    omega arith

one_at_most : (n delivered p o : ℕ) → 0 < n → Nearest n delivered p → Nearest n delivered o → p ≡ o
one_at_most n delivered p o some near_p near-o = omega (arith, none_above n delivered p o some near_p near-o, none_above n delivered o p some near-o near_p)

-- ---- the search finds it

first_passes : (test : ℕ → Bool) (from left p : ℕ) → from ≤ p → p < from + left → test p ≡ true → test (first test from left) ≡ true
unfolding first
first_passes test from zero p low high e = absurd (omega arith)
first_passes test from (suc left) p low high e = go (test from) refl (λ later. first_passes test (suc from) left p later (omega arith) e)
  where
    go : (b : Bool) → test from ≡ b → (suc from ≤ p → test (first test (suc from) left) ≡ true) → test (cond b from (first test (suc from) left)) ≡ true
    go true here after = here
    go false here after =
        let other : from ≡ p → ⊥ = λ same. true≢false (sym e ∙ ap test (sym same) ∙ here) in
        after (omega arith)

first-none : (test : ℕ → Bool) → ((p : ℕ) → test p ≡ true → ⊥) → (from left : ℕ) → first test from left ≡ 0
unfolding first
first-none test fails from zero = refl
first-none test fails from (suc left) = go (test from) refl (first-none test fails (suc from) left)
  where
    go : (b : Bool) → test from ≡ b → first test (suc from) left ≡ 0 → cond b from (first test (suc from) left) ≡ 0
    go true here after = absurd (fails from here)
    go false here after = after

-- a share is the largest where n is 1, and then it is 100 for each node that delivered
nearest-below : (n delivered p : ℕ) → 0 < n → Nearest n delivered p → p < 0 + (100 * delivered + 1)
unfolding distance
nearest-below n delivered p some near = omega (arith, above)
  where
    above : suc (100 * delivered) ≤ p → ⊥
    above far =
        let step : suc (100 * delivered) * n ≤ p * n = mul-le-mul_right n far in
        let next = suc-mul (100 * delivered) n in
        let wide : 100 * delivered ≤ 100 * delivered * n = le-mul_of_pos_right (100 * delivered) some in
        let close = near.close in
        omega arith

pub nearest-is-percent : (n delivered p : ℕ) → 0 < n → Nearest n delivered p → p ≡ percent n delivered
unfolding percent
nearest-is-percent n delivered p some near =
    let found = first_passes (nearest n delivered) 0 (100 * delivered + 1) p (omega arith) (nearest-below n delivered p some near) (says-nearest n delivered p near) in
    one_at_most n delivered p (percent n delivered) some near (nearest-says n delivered (percent n delivered) found)

-- ---- the whole part, or the number above it

module _ (n delivered hundredths : ℕ) (some : 0 < n) (counted : hundredths ≡ 100 * delivered) where
  pub whole-nearest : 2 * (hundredths % n) ≤ n → (2 * (hundredths % n) ≡ n → hundredths / n % 2 ≡ 0) → Nearest n delivered (hundredths / n)
  unfolding distance
  whole-nearest low half =
      let parts = div-add-mod' hundredths n in
      let off : twice_off n delivered (hundredths / n) ≡ 2 * (hundredths % n) = omega arith in
      record { close = omega arith; half-even = λ e. half (sym off ∙ e) }

  pub next-nearest : n ≤ 2 * (hundredths % n) → (2 * (hundredths % n) ≡ n → hundredths / n % 2 ≡ 1) → Nearest n delivered (suc (hundredths / n))
  unfolding distance
  next-nearest high half =
      let parts = div-add-mod' hundredths n in
      let less = mod-lt hundredths some in
      let next = suc-mul (hundredths / n) n in
      let off : twice_off n delivered (suc (hundredths / n)) ≡ 2 * (n - hundredths % n) = omega arith in
      record { close = omega arith; half-even = λ e. odd-next (half (half_of less (sym off ∙ e))) }
    where
      half_of : hundredths % n < n → 2 * (n - hundredths % n) ≡ n → 2 * (hundredths % n) ≡ n
      half_of less e = omega arith

      odd-next : hundredths / n % 2 ≡ 1 → suc (hundredths / n) % 2 ≡ 0
      odd-next e = omega arith

  -- below half of a percent it is the whole part, above it the next number, and half way the even one of the two
  pub below-nearest : 2 * (hundredths % n) < n → Nearest n delivered (hundredths / n)
  below-nearest below = whole-nearest (omega arith) (λ half. absurd (omega arith))

  pub above-nearest : n < 2 * (hundredths % n) → Nearest n delivered (hundredths / n + 1)
  above-nearest above = rw add-one (next-nearest (omega arith) (λ half. absurd (omega arith)))

  pub half-nearest : 2 * (hundredths % n) ≡ n → Nearest n delivered (hundredths / n + hundredths / n % 2)
  half-nearest half = go (hundredths / n % 2) refl
    where
      go : (odd : ℕ) → hundredths / n % 2 ≡ odd → Nearest n delivered (hundredths / n + odd)
      go zero e = rw add-zero (whole-nearest (omega arith) (λ _. e))
      go (suc zero) e = rw add-one (next-nearest (omega arith) (λ _. e))
      go (suc (suc odd)) e = absurd (omega arith)

module _ (n delivered : ℕ) (some : 0 < n) where
  abbrev rest : ℕ
  rest = 100 * delivered % n

  percent-nearest : Nearest n delivered (percent n delivered)
  percent-nearest = go (ltb (2 * rest) n) refl (ltb n (2 * rest)) refl
    where
      is : (p : ℕ) → Nearest n delivered p → Nearest n delivered (percent n delivered)
      is p near = subst (Nearest n delivered) (nearest-is-percent n delivered p some near) near

      go : (a : Bool) → ltb (2 * rest) n ≡ a → (b : Bool) → ltb n (2 * rest) ≡ b → Nearest n delivered (percent n delivered)
      go true below b above = is _ (below-nearest n delivered _ some refl (ltb-true (2 * rest) n below))
      go false below true above = is _ (above-nearest n delivered _ some refl (ltb-true n (2 * rest) above))
      go false below false above =
          let low = ltb-false n (2 * rest) above in
          let high = ltb-false (2 * rest) n below in
          is _ (half-nearest n delivered _ some refl (omega arith))

-- ---- what is claimed

pub one-nearest : OneNearest
one-nearest n delivered p some =
    agree-both _ _ (λ e. eq-eqb p _ (nearest-is-percent n delivered p some (nearest-says n delivered p e)))
    (λ e. rw (eqb-true p _ e) (says-nearest n delivered _ (percent-nearest n delivered some)))

-- of no nodes p percent are none, so that no p is near to some
none-near : (delivered p : ℕ) → twice_off 0 (suc delivered) p ≤ 0 → ⊥
unfolding distance
none-near delivered p close = let none = mul-zero p in omega arith

pub percent-of-none : PercentOfNone
unfolding percent first
percent-of-none zero = go (nearest 0 0 0) 0
  where
    go : (b : Bool) (x : ℕ) → cond b x x ≡ x
    go true x = refl
    go false x = refl
percent-of-none (suc delivered) = first-none (nearest 0 (suc delivered)) fails 0 (100 * suc delivered + 1)
  where
    fails : (p : ℕ) → nearest 0 (suc delivered) p ≡ true → ⊥
    fails p e = let close = (nearest-says 0 (suc delivered) p e).close in none-near delivered p close

pub ends-are-exact : EndsAreExact
unfolding distance
ends-are-exact n delivered some few = (agree-both _ _ all_there all_back, agree-both _ _ none-there none-back)
  where
    near : (p : ℕ) → eqb (percent n delivered) p ≡ true → Nearest n delivered p
    near p e = subst (Nearest n delivered) (eqb-true (percent n delivered) p e) (percent-nearest n delivered some)

    is : (p : ℕ) → Nearest n delivered p → eqb (percent n delivered) p ≡ true
    is p h = eq-eqb (percent n delivered) p (sym (nearest-is-percent n delivered p some h))

    all_there : eqb (percent n delivered) 100 ≡ true → eqb delivered n ≡ true
    all_there e = let close = (near 100 e).close in eq-eqb delivered n (omega arith)

    all_back : eqb delivered n ≡ true → eqb (percent n delivered) 100 ≡ true
    all_back e =
        let same = eqb-true delivered n e in
        is 100 (record { close = omega arith; half-even = λ half. refl })

    none-there : eqb (percent n delivered) 0 ≡ true → eqb delivered 0 ≡ true
    none-there e = let close = (near 0 e).close in eq-eqb delivered 0 (omega arith)

    none-back : eqb delivered 0 ≡ true → eqb (percent n delivered) 0 ≡ true
    none-back e =
        let same = eqb-true delivered 0 e in
        is 0 (record { close = omega arith; half-even = λ half. refl })

pub ends-are-tight : EndsAreTight
unfolding percent first nearest distance
ends-are-tight = (refl, refl)

-- the shares of R16.9, by one test computed over the list
holds : Share → Bool
holds share = eqb (percent share.n share.delivered) share.printed

all_hold : every holds shares ≡ true
unfolding holds shares percent first nearest distance
all_hold = refl

pub shares-hold : SharesHold
unfolding holds
shares-hold share m = eqb-true _ _ (every-says holds m all_hold)
