-- The digits that stand for a number: which they are, how many, that they are a plain number and read back as the number, and
-- that they can be written from the last one on. From the definitions of specs/Text.antt, for numbers of at most twenty digits where it matters.
-- Assumes nothing.
use mathlib.Core.Path.{◌≡◌, refl, sym, ap, ◌∙◌, subst}
use mathlib.Core.Bool.{Bool, true, false, not, and-eq-true_iff}
use mathlib.Core.List.{List, [], ◌∷◌, ◌++◌, append_assoc, append-nil}
use Prim.Native.Nat.{ℕ, zero, suc, ◌+◌, ◌-◌, ◌*◌, ◌/◌, ◌%◌, ◌^◌, ◌≤◌, ◌<◌, zero-le, max}
use native.Mathlib.Nat.{suc-add, pow-succ', pow-le-pow_right, mod-lt, mod-eq_of_lt, le_refl}
use native.Mathlib.Numerals.{add-one}
use native.Mathlib.Omega.{arith}
use lib.Dec.{ltb, eqb, lit<}
use lib.ListN.{length, drop, set, length-append, drop_of_length-le}
use borrow.Author.Tests.{lt-ltb, le-ltb, le-leb, ltb-true, ltb-false, ne_eqb}
use Rattle.std.proofs.lemmas.List.{drop-set}
use Rattle.text.specs.Text.{only, digit, digit_value, value, empty, plain_number, spelled, decimal}

-- ---- digit by digit

module _ (k x : ℕ) where
  -- one digit,
  spelled-digit : x < 10 → spelled (suc k) x ≡ (48 + x) ∷ []
  unfolding spelled
  spelled-digit h = rw (lt-ltb x 10 h)

  -- or the digits of a tenth, and one more
  spelled_step : 10 ≤ x → spelled (suc k) x ≡ spelled k (x / 10) ++ ((48 + x % 10) ∷ [])
  unfolding spelled
  spelled_step h = rw (le-ltb x 10 h)

  -- a number without its last digit
  tenth-lt : x < 10 ^ suc k → x / 10 < 10 ^ k
  tenth-lt h = let e : 10 ^ suc k ≡ 10 * 10 ^ k = pow-succ' 10 k in omega arith

-- so what holds of no digits, of one, and of one more after those of a tenth holds of all
module _ (P : ℕ → ℕ → List ℕ → Type 0) (none : (x : ℕ) → P 0 x [])
    (one : (k x : ℕ) → x < 10 → P (suc k) x ((48 + x) ∷ []))
    (more : (k x : ℕ) (xs : List ℕ) → 10 ≤ x → P k (x / 10) xs → P (suc k) x (xs ++ ((48 + x % 10) ∷ []))) where
  spelled-all : (k x : ℕ) → P k x (spelled k x)
  unfolding spelled
  spelled-all zero x = none x
  spelled-all (suc k) x = go (ltb x 10) refl (spelled-all k (x / 10))
    where
      go : (b : Bool) → ltb x 10 ≡ b → P k (x / 10) (spelled k (x / 10)) → P (suc k) x (spelled (suc k) x)
      go true e h = subst (P (suc k) x) (sym (spelled-digit k x (ltb-true x 10 e))) (one k x (ltb-true x 10 e))
      go false e h =
          subst (P (suc k) x) (sym (spelled_step k x (ltb-false x 10 e))) (more k x (spelled k (x / 10)) (ltb-false x 10 e) h)

-- more digits allowed change nothing
pub spelled-enough : (k m x : ℕ) → x < 10 ^ suc k → spelled (suc k) x ≡ spelled (suc (k + m)) x
spelled-enough k m x h =
    spelled-all (λ (j y : ℕ) (ys : List ℕ). 0 < j → y < 10 ^ j → ys ≡ spelled (j + m) y) (λ y l u. absurd (omega arith)) one more (suc k) x (omega arith) h
    ∙ ap (λ (j : ℕ). spelled j x) (suc-add k m)
  where
    one : (j y : ℕ) → y < 10 → 0 < suc j → y < 10 ^ suc j → (48 + y) ∷ [] ≡ spelled (suc j + m) y
    one j y s l u = rw (suc-add j m) (sym (spelled-digit (j + m) y s))

    more : (j y : ℕ) (ys : List ℕ) → 10 ≤ y → (0 < j → y / 10 < 10 ^ j → ys ≡ spelled (j + m) (y / 10)) → 0 < suc j → y < 10 ^ suc j
        → ys ++ ((48 + y % 10) ∷ []) ≡ spelled (suc j + m) y
    more zero y ys s h l u = absurd (omega arith)
    more (suc j) y ys s h l u =
        rw (h (omega arith) (tenth-lt (suc j) y u), suc-add (suc j) m) (sym (spelled_step (suc j + m) y s))

-- the digits of 64 bits: one,
pub decimal_digit : (x : ℕ) → x < 10 → decimal x ≡ (48 + x) ∷ []
unfolding decimal
decimal_digit x h = spelled-digit 19 x h

-- or those of a tenth, and one more
pub decimal_step : (x : ℕ) → 10 ≤ x → x < 10 ^ 20 → decimal x ≡ decimal (x / 10) ++ ((48 + x % 10) ∷ [])
unfolding decimal
decimal_step x l h =
    spelled_step 19 x l ∙ ap (λ (r : List ℕ). r ++ ((48 + x % 10) ∷ [])) (spelled-enough 18 1 (x / 10) (tenth-lt 19 x h))

-- ---- how many they are

-- at most twenty
pub decimal-short : (x : ℕ) → length (decimal x) ≤ 20
unfolding decimal
decimal-short x =
    spelled-all (λ (k y : ℕ) (ys : List ℕ). length ys ≤ k) (λ y. omega arith) (λ k y h. omega arith)
    (λ k y ys h l. simp length-append (omega arith)) 20 x

-- at least one
pub decimal-some : (x : ℕ) → 0 < length (decimal x)
unfolding decimal
decimal-some x =
    spelled-all (λ (k y : ℕ) (ys : List ℕ). 0 < k → 0 < length ys) (λ y l. l) (λ k y h l. omega arith)
    (λ k y ys h below l. simp length-append (omega arith)) 20 x (omega arith)

-- one more than the power of ten that the number reaches
spelled-count : (k j x : ℕ) → (0 < k → 10 ^ k ≤ x) → x < 10 ^ suc k → k < j → length (spelled j x) ≡ suc k
spelled-count k zero x least less h = absurd (omega arith)
spelled-count zero (suc j) x least less h = ap length (spelled-digit j x less)
spelled-count (suc k) (suc j) x least less h =
    let power : 10 ^ suc k ≡ 10 * 10 ^ k = pow-succ' 10 k in
    let some : 10 ^ 0 ≤ 10 ^ k = pow-le-pow_right (lit< tt) zero-le in
    let ten : 10 ≤ x = omega (arith, least (omega arith)) in
    ap length (spelled_step j x ten)
    ∙ simp length-append (omega (arith, spelled-count k j (x / 10) (λ l. omega (arith, least (omega arith))) (tenth-lt (suc k) x less) (omega arith)))

pub decimal-count : (k x : ℕ) → 10 ^ k ≤ max x 1 → max x 1 < 10 * 10 ^ k → k < 20 → length (decimal x) ≡ suc k
unfolding decimal
decimal-count k x least less h =
    let power : 10 ^ suc k ≡ 10 * 10 ^ k = pow-succ' 10 k in
    spelled-count k 20 x (λ l. let ten : 10 ^ 1 ≤ 10 ^ k = pow-le-pow_right (lit< tt) l in omega arith) (omega arith) h

-- ---- what they are

-- each is a digit
only-append : (test : ℕ → Bool) (xs ys : List ℕ) → only test xs ≡ true → only test ys ≡ true → only test (xs ++ ys) ≡ true
unfolding only
only-append test [] ys h k = k
only-append test (x ∷ xs) ys h k =
    let both = (and-eq-true_iff (test x) (only test xs)).0 h in
    (and-eq-true_iff (test x) (only test (xs ++ ys))).1 (both.0, only-append test xs ys both.1 k)

digit-one : (y : ℕ) → y < 10 → only digit ((48 + y) ∷ []) ≡ true
unfolding only digit
digit-one y h =
    let low : 48 ≤ 48 + y = omega arith in
    let high : 48 + y ≤ 57 = omega arith in
    rw (le-leb 48 (48 + y) low, le-leb (48 + y) 57 high)

spelled-only : (k x : ℕ) → only digit (spelled k x) ≡ true
unfolding only
spelled-only k x =
    spelled-all (λ (j y : ℕ) (ys : List ℕ). only digit ys ≡ true) (λ y. refl) (λ j y h. digit-one y h)
    (λ j y ys l h. only-append digit ys _ h (digit-one (y % 10) (omega arith))) k x

-- the first one is there, and is not a zero, unless the number is
led : List ℕ → Bool
led [] = false
led (x ∷ xs) = not (eqb x 48)

spelled-led : (k x : ℕ) → 0 < x → x < 10 ^ k → led (spelled k x) ≡ true
unfolding led
spelled-led k x =
    spelled-all (λ (j y : ℕ) (ys : List ℕ). 0 < y → y < 10 ^ j → led ys ≡ true) (λ y l h. absurd (omega arith)) one more k x
  where
    one : (j y : ℕ) → y < 10 → 0 < y → y < 10 ^ suc j → led ((48 + y) ∷ []) ≡ true
    one j y h l u = let other : 48 + y ≡ 48 → ⊥ = λ e. omega arith in rw (ne_eqb (48 + y) 48 other)

    front : (ys zs : List ℕ) → led ys ≡ true → led (ys ++ zs) ≡ true
    front [] zs h = cc
    front (y ∷ ys) zs h = h

    more : (j y : ℕ) (ys : List ℕ) → 10 ≤ y → (0 < y / 10 → y / 10 < 10 ^ j → led ys ≡ true) → 0 < y → y < 10 ^ suc j → led (ys ++ ((48 + y % 10) ∷ [])) ≡ true
    more j y ys l h p u = front ys _ (h (omega arith) (tenth-lt j y u))

-- which together is all that a plain number asks
plain-led : (xs : List ℕ) → only digit xs ≡ true → led xs ≡ true → plain_number xs ≡ true
unfolding plain_number led
plain-led [] h l = l
plain-led (x ∷ xs) h l = rw (h, l)

-- a number is written as a plain number,
pub decimal-plain : (x : ℕ) → x < 10 ^ 20 → plain_number (decimal x) ≡ true
unfolding decimal plain_number spelled only digit empty
decimal-plain zero h = refl
decimal-plain (suc x) h = plain-led (decimal (suc x)) (spelled-only 20 (suc x)) (spelled-led 20 (suc x) (omega arith) h)

-- the number that one digit more writes
value-snoc : (base leading : ℕ) (xs : List ℕ) (d : ℕ) → value base leading (xs ++ (d ∷ [])) ≡ value base leading xs * base + digit_value d
unfolding value
value-snoc base leading [] d = refl
value-snoc base leading (x ∷ xs) d = value-snoc base (leading * base + digit_value x) xs d

value-of-digit : (y : ℕ) → y < 10 → digit_value (48 + y) ≡ y
unfolding digit_value
value-of-digit y h = let high : 48 + y ≤ 57 = omega arith in rw (le-leb (48 + y) 57 high) (omega arith)

-- and reads back as the number
pub decimal-value : (x : ℕ) → x < 10 ^ 20 → value 10 0 (decimal x) ≡ x
unfolding decimal value
decimal-value x =
    spelled-all (λ (j y : ℕ) (ys : List ℕ). y < 10 ^ j → value 10 0 ys ≡ y) (λ y h. omega arith)
    (λ j y h u. rw (value-of-digit y h) (omega arith))
    (λ j y ys l h u. value-snoc 10 0 ys (48 + y % 10) ∙ rw (h (tenth-lt j y u), value-of-digit (y % 10) (mod-lt y (lit< tt))) (omega arith)) 20 x

-- ---- written from the last one on

-- the last k digits of a number
unfoldable pub last_digits : ℕ → ℕ → List ℕ
last_digits zero x = []
last_digits (suc k) x = last_digits k (x / 10) ++ ((48 + x % 10) ∷ [])

-- its own digits are the last so many
decimal-last : (x : ℕ) → decimal x ≡ last_digits (length (decimal x)) x
unfolding decimal last_digits
decimal-last x =
    spelled-all (λ (j y : ℕ) (ys : List ℕ). ys ≡ last_digits (length ys) y) (λ y. refl)
    (λ j y h. ap (λ (d : ℕ). (48 + d) ∷ []) (sym (mod-eq_of_lt h)))
    (λ j y ys l h. ap (λ (r : List ℕ). r ++ ((48 + y % 10) ∷ [])) h ∙ ap (λ (n : ℕ). last_digits n y) (sym (length-append ys _ ∙ add-one (length ys)))) 20 x

-- and those that are still to be written stand before those that are written already: the last of them is written next,
pub last_before : (k x : ℕ) (out : List ℕ) → 0 < k → k ≤ length out
    → last_digits (k - 1) (x / 10) ++ drop (k - 1) (set out (k - 1) (48 + x % 10)) ≡ last_digits k x ++ drop k out
unfolding last_digits
last_before zero x out p h = absurd (omega arith)
last_before (suc k) x out p h =
    let back : suc k - 1 ≡ k = omega arith in
    rw (back, drop-set out k (48 + x % 10) (omega arith), add-one k) (sym (append_assoc (last_digits k (x / 10)) ((48 + x % 10) ∷ []) (drop (suc k) out)))

-- at first all of the number is to be written,
pub last-all : (x : ℕ) (out : List ℕ) → length out ≡ length (decimal x) → last_digits (length out) x ++ drop (length out) out ≡ decimal x
last-all x out long = rw (drop_of_length-le out {i = length out} (le_refl (length out)), long, ← decimal-last x, append-nil)

-- and in the end it is written
pub last_none : (x : ℕ) (out : List ℕ) → last_digits 0 x ++ drop 0 out ≡ out
unfolding last_digits
last_none x out = refl
