-- Numbers and the bytes that write them, for any count of bytes: each is the other's inverse.
-- Assumes nothing.
use mathlib.Core.Path.{◌≡◌, refl, sym, ap, ap₂, ◌∙◌, subst}
use mathlib.Core.Bool.{Bool, true, false, and-eq-true_iff}
use mathlib.Core.List.{List, [], ◌∷◌, ◌++◌, reverse, reverse-cons}
use Prim.Native.Nat.{ℕ, zero, suc, ◌+◌, ◌*◌, ◌/◌, ◌%◌, ◌^◌, ◌≤◌, ◌<◌}
use native.Mathlib.Nat.{zero-add, suc-add, one-le-pow, pow-succ', mul_comm, mul_assoc, add-mul, add_assoc, div-div-eq-div-mul, mod-lt, mod-eq_of_lt, zero-mul, mul-add-div_right, mul-add-mod_self_right}
use native.Mathlib.Omega.{arith}
use lib.Arith.{digits_lt, digits_div, digits_mod, mod-mul}
use lib.Dec.{ltb, lit<}
use lib.Pow.{pow-add, are_bytes}
use lib.ListN.{length, get_or, take, drop, length-append, length-take, length-drop, get_or-eq_default}
use lib.Seq.{take-add, take-take, drop-drop, get_or-take, get_or-drop}
use borrow.Author.Tests.{ltb-true, ltb-false}
use Rattle.octets.specs.Octets.{Bytes, number, bytes_of, part}

pub base-pos : (k : ℕ) → 0 < 256 ^ k
base-pos k = one-le-pow k 256 (lit< tt)

-- what `bytes_of` gives: k of them, each a byte
pub length-bytes_of : (k x : ℕ) → length (bytes_of k x) ≡ k
unfolding bytes_of
length-bytes_of zero x = refl
length-bytes_of (suc k) x = ap suc (length-bytes_of k x)

pub bytes-bytes_of : (k x : ℕ) → Bytes (bytes_of k x)
unfolding bytes_of
bytes-bytes_of zero x i = lit< tt
bytes-bytes_of (suc k) x zero = mod-lt (x / 256 ^ k) (lit< tt)
bytes-bytes_of (suc k) x (suc i) = bytes-bytes_of k x i

-- a written-out list of bytes, by one test that is computed
pub bytes-test : (xs : List ℕ) → are_bytes xs ≡ true → Bytes xs
bytes-test [] e i = lit< tt
bytes-test (x ∷ xs) e zero = ltb-true x 256 ((and-eq-true_iff (ltb x 256) (are_bytes xs)).0 e).0
bytes-test (x ∷ xs) e (suc i) = bytes-test xs ((and-eq-true_iff (ltb x 256) (are_bytes xs)).0 e).1 i

-- lists of bytes, joined, turned round and cut
pub bytes-append : (xs ys : List ℕ) → Bytes xs → Bytes ys → Bytes (xs ++ ys)
bytes-append [] ys h k i = k i
bytes-append (x ∷ xs) ys h k zero = h 0
bytes-append (x ∷ xs) ys h k (suc i) = bytes-append xs ys (λ j. h (suc j)) k i

bytes_one : (x : ℕ) → x < 256 → Bytes (x ∷ [])
bytes_one x h zero = h
bytes_one x h (suc i) = lit< tt

pub bytes-reverse : (xs : List ℕ) → Bytes xs → Bytes (reverse xs)
bytes-reverse [] h = h
bytes-reverse (x ∷ xs) h =
    rw reverse-cons (bytes-append (reverse xs) (x ∷ []) (bytes-reverse xs (λ i. h (suc i))) (bytes_one x (h 0)))

pub bytes-part : (i k : ℕ) (xs : List ℕ) → Bytes xs → Bytes (part i k xs)
bytes-part i k xs h n = go (ltb n k) refl
  where
    go : (b : Bool) → ltb n k ≡ b → get_or (part i k xs) n 0 < 256
    go true e = rw (get_or-take k (drop i xs) n 0 (ltb-true n k e), get_or-drop i xs n 0) (h (i + n))
    go false e =
        let past : length (part i k xs) ≤ n = simp length-take (omega (arith, ltb-false n k e)) in
        rw (get_or-eq_default (part i k xs) 0 past) (lit< tt)

-- k bytes write a number below 256 to the power k
pub number_lt : (bs : List ℕ) → Bytes bs → number bs < 256 ^ length bs
unfolding number
number_lt [] h = lit< tt
number_lt (b ∷ bs) h =
    rw (pow-succ' 256 (length bs)) (digits_lt (h 0) (number_lt bs (λ i. h (suc i))))

-- bytes that write a number give its low part back
pub number-bytes_of-mod : (k x : ℕ) → number (bytes_of k x) ≡ x % 256 ^ k
unfolding number bytes_of
number-bytes_of-mod zero x = let h : x % 1 < 1 = mod-lt x (lit< tt) in omega arith
number-bytes_of-mod (suc k) x =
    ap₂ (λ (j r : ℕ). x / 256 ^ k % 256 * 256 ^ j + r) (length-bytes_of k x) (number-bytes_of-mod k x)
    ∙ sym (mod-mul x (lit< tt) (base-pos k))
    ∙ ap (λ (m : ℕ). x % m) (sym (pow-succ' 256 k))

-- a number that k bytes can write is read back from them,
pub number-bytes_of : (k x : ℕ) → x < 256 ^ k → number (bytes_of k x) ≡ x
number-bytes_of k x h = number-bytes_of-mod k x ∙ mod-eq_of_lt h

-- what stands above the k low bytes does not show in them
pub bytes_of-low : (k a r : ℕ) → bytes_of k (a * 256 ^ k + r) ≡ bytes_of k r
unfolding bytes_of
bytes_of-low zero a r = refl
bytes_of-low (suc k) a r =
    let e : a * 256 ^ suc k + r ≡ a * 256 * 256 ^ k + r = rw (pow-succ' 256 k, ← mul_assoc a 256 (256 ^ k)) in
    rw e
    (ap₂ ◌∷◌ (ap (λ (x : ℕ). x % 256) (mul-add-div_right (base-pos k) (a * 256) r) ∙ mul-add-mod_self_right a 256 (r / 256 ^ k))
    (bytes_of-low k (a * 256) r))

-- and bytes are written by the number that they write
pub bytes_of-number : (bs : List ℕ) → Bytes bs → bytes_of (length bs) (number bs) ≡ bs
unfolding number bytes_of
bytes_of-number [] h = refl
bytes_of-number (b ∷ bs) h =
    ap₂ ◌∷◌
    (ap (λ (x : ℕ). x % 256) (digits_div b (number_lt bs (λ i. h (suc i)))) ∙ mod-eq_of_lt (h 0))
    (bytes_of-low (length bs) b (number bs) ∙ bytes_of-number bs (λ i. h (suc i)))

-- a part within a list has its whole length
pub length_part : (xs : List ℕ) (i k : ℕ) → i + k ≤ length xs → length (part i k xs) ≡ k
length_part xs i k h = simp (length-take, length-drop) (omega arith)

-- and a part of bytes is written by its number
pub number-part : (xs : List ℕ) (i k : ℕ) → Bytes xs → i + k ≤ length xs → bytes_of k (number (part i k xs)) ≡ part i k xs
number-part xs i k bytes h =
    subst (λ (m : ℕ). bytes_of m (number (part i k xs)) ≡ part i k xs) (length_part xs i k h) (bytes_of-number (part i k xs) (bytes-part i k xs bytes))

-- the number of two runs of bytes
pub number_append : (xs ys : List ℕ) → number (xs ++ ys) ≡ number xs * 256 ^ length ys + number ys
unfolding number
number_append [] ys = rw (zero-mul, zero-add)
number_append (x ∷ xs) ys =
    ap₂ (λ (k r : ℕ). x * 256 ^ k + r) (length-append xs ys) (number_append xs ys)
    ∙ rw (pow-add 256 (length xs) (length ys), ← mul_assoc, ← add_assoc, ← add-mul)

-- the high bytes of a number, then its low ones
pub bytes_of-split : (j k x : ℕ) → bytes_of (j + k) x ≡ bytes_of j (x / 256 ^ k) ++ bytes_of k x
unfolding bytes_of
bytes_of-split zero k x = ap (λ (m : ℕ). bytes_of m x) (zero-add k)
bytes_of-split (suc j) k x =
    rw (suc-add, bytes_of-split j k x, div-div-eq-div-mul, pow-add, mul_comm (256 ^ j))

number-halves : (xs : List ℕ) (j k : ℕ) → j + k ≤ length xs → number (take (j + k) xs) ≡ number (take j xs) * 256 ^ k + number (part j k xs)
number-halves xs j k h =
    ap number (take-add j k xs) ∙ number_append (take j xs) (part j k xs)
    ∙ ap (λ (m : ℕ). number (take j xs) * 256 ^ m + number (part j k xs)) (length_part xs j k h)

part-lt : (xs : List ℕ) (j k : ℕ) → j + k ≤ length xs → Bytes xs → number (part j k xs) < 256 ^ k
part-lt xs j k h bytes = subst (λ (m : ℕ). number (part j k xs) < 256 ^ m) (length_part xs j k h) (number_lt (part j k xs) (bytes-part j k xs bytes))

-- the first j bytes are the number's high part, the next k its low part
pub number-high : (xs : List ℕ) (j k : ℕ) → j + k ≤ length xs → Bytes xs → number (take (j + k) xs) / 256 ^ k ≡ number (take j xs)
number-high xs j k h bytes = ap (λ (m : ℕ). m / 256 ^ k) (number-halves xs j k h) ∙ digits_div (number (take j xs)) (part-lt xs j k h bytes)

pub number-low : (xs : List ℕ) (j k : ℕ) → j + k ≤ length xs → Bytes xs → number (take (j + k) xs) % 256 ^ k ≡ number (part j k xs)
number-low xs j k h bytes = ap (λ (m : ℕ). m % 256 ^ k) (number-halves xs j k h) ∙ digits_mod (number (take j xs)) (part-lt xs j k h bytes)

-- a part of a part is a part
part-taken : (i k m : ℕ) (ys : List ℕ) → i + k ≤ m → part i k (take m ys) ≡ part i k ys
part-taken zero k m ys h = take-take k m ys (omega arith)
part-taken (suc i) k zero ys h = absurd (omega arith)
part-taken (suc i) k (suc m) [] h = refl
part-taken (suc i) k (suc m) (y ∷ ys) h = part-taken i k m ys (omega arith)

pub part-part : (i k j m : ℕ) (xs : List ℕ) → i + k ≤ m → part i k (part j m xs) ≡ part (j + i) k xs
part-part i k j m xs h = part-taken i k m (drop j xs) h ∙ ap (take k) (drop-drop i j xs)
