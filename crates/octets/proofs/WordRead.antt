-- Reading a word: the library's number of eight bytes is the one that they write.
-- Assumes nothing.
use mathlib.Core.Path.{◌≡◌, refl, sym, ap, ◌∙◌}
use mathlib.Core.List.{List, [], ◌∷◌}
use Prim.Native.Nat.{ℕ, zero, suc, ◌+◌, ◌≤◌, ◌<◌, ◌^◌}
use native.Mathlib.Nat.{div-one}
use native.Mathlib.Omega.{arith}
use lib.ListN.{length, get_or, take}
use lib.Seq.{drop-cons}
use borrow.Author.Tests.{eq-eqb, ne_eqb}
use Rattle.std.specs.Int.{w64, to_be_bytes, from_be_bytes}
use Rattle.std.proofs.lemmas.Nat.{be_bytes_8}
use Rattle.octets.specs.Octets.{Bytes, number, bytes_of, part, word_of}
use Rattle.octets.proofs.Numbers.{length_part, number-part, number-bytes_of}

-- the library writes a word's bytes as they are written here
pub library_bytes : (x : ℕ) → to_be_bytes w64 x ≡ bytes_of 8 x
unfolding bytes_of
library_bytes x = rw div-one

-- the k elements from index i on, one by one
abbrev pub elements : List ℕ → ℕ → ℕ → List ℕ
elements xs i zero = []
elements xs i (suc k) = get_or xs i 0 ∷ elements xs (suc i) k

-- they are the part of the list there
pub elements-part : (xs : List ℕ) (i k : ℕ) → i + k ≤ length xs → elements xs i k ≡ part i k xs
elements-part xs i zero h = refl
elements-part xs i (suc k) h =
    let room : i < length xs = omega arith in
    ap (λ (r : List ℕ). get_or xs i 0 ∷ r) (elements-part xs (suc i) k (omega arith)) ∙ sym (ap (take (suc k)) (drop-cons xs i 0 room))

-- a word is the number of its eight bytes,
pub word_number : (xs : List ℕ) → length xs ≡ 8 → word_of xs ≡ number xs
unfolding word_of
word_number xs l = rw (eq-eqb (length xs) 8 l)

-- is 0 for any other count,
pub word-other : (xs : List ℕ) → (length xs ≡ 8 → ⊥) → word_of xs ≡ 0
unfolding word_of
word-other xs h = rw (ne_eqb (length xs) 8 h)

-- and is written by them
pub word_bytes : (xs : List ℕ) (i : ℕ) → i + 8 ≤ length xs → Bytes xs → bytes_of 8 (word_of (part i 8 xs)) ≡ part i 8 xs
word_bytes xs i h bytes = ap (bytes_of 8) (word_number (part i 8 xs) (length_part xs i 8 h)) ∙ number-part xs i 8 bytes h

-- a number that has these eight bytes is their word
pub word-unique : (xs : List ℕ) (x : ℕ) → length xs ≡ 8 → x < 2 ^ 64 → bytes_of 8 x ≡ xs → x ≡ word_of xs
word-unique xs x l h e = sym (number-bytes_of 8 x h) ∙ ap number e ∙ sym (word_number xs l)

-- as has the one that the library reads from them
pub word-read : (xs : List ℕ) (x : ℕ) → length xs ≡ 8 → x < 2 ^ 64 → Bytes xs → x ≡ from_be_bytes w64 xs → x ≡ word_of xs
word-read xs x l h bytes e = word-unique xs x l h (sym (library_bytes x) ∙ be_bytes_8 xs x l bytes e)
