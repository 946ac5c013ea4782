-- Numbers that digits write: reading on, how large a number is with so many digits, and what plain numbers are.
-- Assumes nothing.
use mathlib.Core.Path.{◌≡◌, refl, sym, ◌∙◌}
use mathlib.Core.Bool.{Bool, true, false, not, cond, ◌&&◌, ◌||◌, and-eq-true_iff, and-false, or-false, or-true}
use mathlib.Core.List.{List, [], ◌∷◌, ◌++◌}
use Prim.Native.Nat.{ℕ, ◌+◌, ◌-◌, ◌*◌, ◌^◌, ◌≤◌, ◌<◌, zero-le}
use native.Mathlib.Nat.{pow-succ', mul_assoc, mul-le-mul_right, pow-le-pow_right}
use native.Mathlib.Numerals.{add-one}
use native.Mathlib.Omega.{arith}
use lib.Arith.{digits_lt}
use lib.Dec.{leb, ltb, eqb, lit<}
use lib.ListN.{length, get_or, take}
use lib.Seq.{take-suc}
use borrow.Author.Tests.{leb-true, le-leb, ltb-true, ltb-false, eqb-false, ne_eqb, not-true}
use Rattle.text.specs.Text.{only, digit, hex_digit, digit_value, value, empty, plain_number}

-- ---- digits

-- a decimal digit is a byte from 48 to 57, and each of those is one
pub digit-says : (b : ℕ) → digit b ≡ true → (48 ≤ b) × (b ≤ 57)
unfolding digit
digit-says b e =
    let (low, high) = (and-eq-true_iff (leb 48 b) (leb b 57)).0 e in
    (leb-true 48 b low, leb-true b 57 high)

pub digit-holds : (b : ℕ) → 48 ≤ b → b ≤ 57 → digit b ≡ true
unfolding digit
digit-holds b low high = rw (le-leb 48 b low, le-leb b 57 high)

-- what a decimal digit stands for,
pub digit_value_lem : (b : ℕ) → b ≤ 57 → digit_value b ≡ b - 48
unfolding digit_value
digit_value_lem b h = rw (le-leb b 57 h)

-- which is below ten; and what a hexadecimal one stands for is below 16
pub digit_lt : (b : ℕ) → digit b ≡ true → digit_value b < 10
digit_lt b e = let (low, high) = digit-says b e in rw (digit_value_lem b high) (omega arith)

pub hex-digit-lt : (b : ℕ) → hex_digit b ≡ true → digit_value b < 16
unfolding hex_digit digit digit_value
hex-digit-lt b e = go (leb b 57) refl e
  where
    go : (t : Bool) → leb b 57 ≡ t → ((leb 48 b && t) || (leb 97 b && leb b 102)) ≡ true → cond t (b - 48) (b - 87) < 16
    go true h e = omega (arith, leb-true b 57 h)
    go false h e = omega (arith, leb-true b 102 ((and-eq-true_iff (leb 97 b) (leb b 102)).0 (rw (and-false (leb 48 b)) at e)).1)

-- ---- reading on

-- a text read after another
pub value-append : (base leading : ℕ) (xs ys : List ℕ) → value base leading (xs ++ ys) ≡ value base (value base leading xs) ys
unfolding value
value-append base leading [] ys = refl
value-append base leading (x ∷ xs) ys = value-append base (leading * base + digit_value x) xs ys

-- one digit more
pub value-more : (base : ℕ) (xs : List ℕ) (i : ℕ) → i < length xs → value base 0 (take (i + 1) xs) ≡ value base 0 (take i xs) * base + digit_value (get_or xs i 0)
unfolding value
value-more base xs i h = rw (add-one i, take-suc xs i 0 h) (value-append base 0 (take i xs) (get_or xs i 0 ∷ []))

-- reading on never makes the number smaller:
pub value-mono : (leading : ℕ) (xs : List ℕ) → leading ≤ value 10 leading xs
unfolding value
value-mono leading [] = omega arith
value-mono leading (x ∷ xs) = let more : leading * 10 + digit_value x ≤ value 10 (leading * 10 + digit_value x) xs = value-mono (leading * 10 + digit_value x) xs in omega arith

-- it grows tenfold with each digit
value-least : (leading : ℕ) (xs : List ℕ) → leading * 10 ^ length xs ≤ value 10 leading xs
unfolding value
value-least leading [] = omega arith
value-least leading (x ∷ xs) =
    let more : (leading * 10 + digit_value x) * 10 ^ length xs ≤ value 10 (leading * 10 + digit_value x) xs = value-least (leading * 10 + digit_value x) xs in
    rw (pow-succ' 10 (length xs)) (omega arith)

-- and a hexadecimal one by no more than sixteenfold: k digits write a number below the k-th power of 16
hex-lt : (leading m : ℕ) (xs : List ℕ) → leading < m → only hex_digit xs ≡ true → value 16 leading xs < m * 16 ^ length xs
unfolding value only
hex-lt leading m [] h e = omega arith
hex-lt leading m (x ∷ xs) h e =
    let (here, later) = (and-eq-true_iff (hex_digit x) (only hex_digit xs)).0 e in
    rw (pow-succ' 16 (length xs), ← mul_assoc m 16 (16 ^ length xs))
    (hex-lt (leading * 16 + digit_value x) (m * 16) xs (digits_lt h (hex-digit-lt x here)) later)

pub hex-fits : (xs : List ℕ) → only hex_digit xs ≡ true → value 16 0 xs < 16 ^ length xs
hex-fits xs e = let h : value 16 0 xs < 1 * 16 ^ length xs = hex-lt 0 1 xs (lit< tt) e in omega arith

-- ---- plain numbers

-- a plain number of more digits than one does not begin with a zero,
pub plain-lead : (xs : List ℕ) → plain_number xs ≡ true → 1 < length xs → 0 < digit_value (get_or xs 0 0)
unfolding plain_number empty only
plain-lead [] e h = absurd (omega arith)
plain-lead (x ∷ []) e h = absurd (omega arith)
plain-lead (x ∷ (y ∷ ys)) e h =
    let (digits, lead) = (and-eq-true_iff (only digit (x ∷ (y ∷ ys))) (not (eqb x 48) || false)).0 e in
    let (low, high) = digit-says x ((and-eq-true_iff (digit x) (only digit (y ∷ ys))).0 digits).0 in
    let other : x ≡ 48 → ⊥ = eqb-false x 48 (not-true (eqb x 48) (sym (or-false (not (eqb x 48))) ∙ lead)) in
    rw (digit_value_lem x high) (omega arith)

-- and digits of which that holds are one
pub plain-holds : (xs : List ℕ) → 0 < length xs → only digit xs ≡ true → (1 < length xs → get_or xs 0 0 ≡ 48 → ⊥) → plain_number xs ≡ true
unfolding plain_number empty
plain-holds [] h e other = absurd (omega arith)
plain-holds (x ∷ []) h e other = rw (e, or-true (not (eqb x 48)))
plain-holds (x ∷ (y ∷ ys)) h e other = rw (e, ne_eqb x 48 (other (omega arith)))

-- so one below the k-th power of ten has at most k digits (zero itself has one)
pub plain-short : (k : ℕ) (xs : List ℕ) → 0 < k → plain_number xs ≡ true → value 10 0 xs < 10 ^ k → length xs ≤ k
unfolding value
plain-short k [] pos e v = zero-le
plain-short k (x ∷ []) pos e v = pos
plain-short k (x ∷ (y ∷ ys)) pos e v = go (ltb (length (y ∷ ys)) k) refl
  where
    go : (t : Bool) → ltb (length (y ∷ ys)) k ≡ t → length (x ∷ (y ∷ ys)) ≤ k
    go true h = ltb-true (length (y ∷ ys)) k h
    go false h =
        let power : 10 ^ k ≤ 10 ^ length (y ∷ ys) = pow-le-pow_right (lit< tt) (ltb-false (length (y ∷ ys)) k h) in
        let lead : 1 * 10 ^ length (y ∷ ys) ≤ digit_value x * 10 ^ length (y ∷ ys) = mul-le-mul_right (10 ^ length (y ∷ ys)) (plain-lead (x ∷ (y ∷ ys)) e (omega arith)) in
        let least : (0 * 10 + digit_value x) * 10 ^ length (y ∷ ys) ≤ value 10 (0 * 10 + digit_value x) (y ∷ ys) = value-least (0 * 10 + digit_value x) (y ∷ ys) in
        omega arith
