-- Bytes and the numbers that they write, high byte first (R3.1, R4.1). A slice of bytes is the list of its numbers.
-- Assumes nothing.
use Rattle.std.specs.Prelude.{Bool, true, false, cond, ◌&&◌, List, [], ◌∷◌, ◌++◌, ℕ, zero, suc, ◌+◌, ◌*◌, ◌/◌, ◌%◌, ◌^◌, ◌<◌, eqb, leb, length, get_or, take, drop, replicate}

-- every element is a byte
abbrev pub Bytes : List ℕ → Type 0
Bytes xs = (i : ℕ) → get_or xs i 0 < 256

-- the two lists have the same elements
unfoldable pub same : List ℕ → List ℕ → Bool
same [] [] = true
same [] (y ∷ ys) = false
same (x ∷ xs) [] = false
same (x ∷ xs) (y ∷ ys) = eqb x y && same xs ys

-- every element is zero
abbrev pub blank : List ℕ → Bool
blank xs = same xs (replicate (length xs) 0)

-- the number that the bytes write, high byte first
unfoldable pub number : List ℕ → ℕ
number [] = 0
number (b ∷ bs) = b * 256 ^ length bs + number bs

-- the k low bytes of a number, high byte first
unfoldable pub bytes_of : ℕ → ℕ → List ℕ
bytes_of zero x = []
bytes_of (suc k) x = x / 256 ^ k % 256 ∷ bytes_of k x

-- the k bytes from index i on
abbrev pub part : ℕ → ℕ → List ℕ → List ℕ
part i k xs = take k (drop i xs)

-- the place in memory that is k bytes further on. A contract says by it where a part of a slice given by the caller starts
abbrev pub advance : ℕ → ℕ × ℕ → ℕ × ℕ
advance k place = (place.0, k + place.1)

-- the number of eight bytes; 0 for any other count
unfoldable pub word_of : List ℕ → ℕ
word_of xs = cond (eqb (length xs) 8) (number xs) 0

-- what a slice holds after a word is written over the eight bytes from index `at` on. Without room there it stays as it is
unfoldable pub placed : (at x : ℕ) (xs : List ℕ) → List ℕ
placed at x xs = cond (leb (at + 8) (length xs)) (take at xs ++ (bytes_of 8 x ++ drop (at + 8) xs)) xs

-- four eight-byte numbers, one after the other
unfoldable pub words : ℕ → ℕ → ℕ → ℕ → List ℕ
words a b c d = bytes_of 8 a ++ (bytes_of 8 b ++ (bytes_of 8 c ++ bytes_of 8 d))

-- what a slice holds after four words are written over it: they take 32 bytes, and a slice of another length stays
unfoldable pub filled : List ℕ → ℕ → ℕ → ℕ → ℕ → List ℕ
filled xs a b c d = cond (eqb (length xs) 32) (words a b c d) xs
