-- R3.2: sets of nodes as words of 64 bits. Node u has bit u, which is worth 2 to the power u.
-- Assumes nothing.
use Rattle.std.specs.Prelude.{Bool, not, cond, ℕ, ◌-◌, ◌/◌, ◌%◌, ◌^◌, eqb, ltb, leb}
use Rattle.std.specs.Int.Bits.{bit_and, bit_or}
use Rattle.std.specs.Int.Count.{ones}

-- bit u of the word is set
unfoldable pub member : ℕ → ℕ → Bool
member set node = eqb (set / 2 ^ node % 2) 1

-- the word with one bit more; a word has 64 bits
unfoldable pub insert : ℕ → ℕ → ℕ
insert set node = cond (ltb node 64) (bit_or set (2 ^ node)) set

-- the word without that bit
unfoldable pub without : ℕ → ℕ → ℕ
without set node = cond (member set node) (set - 2 ^ node) set

-- the bits of either word
abbrev pub union : ℕ → ℕ → ℕ
union a b = bit_or a b

-- the bits that both words have
abbrev pub common : ℕ → ℕ → ℕ
common a b = bit_and a b

-- how many bits are set
abbrev pub size : ℕ → ℕ
size set = ones set

-- a bit that both words have
unfoldable pub meets : ℕ → ℕ → Bool
meets a b = not (eqb (common a b) 0)

-- bits 0 to n - 1, the mask of R2.4; a word has 64 bits
unfoldable pub below : ℕ → ℕ
below n = cond (leb n 64) (2 ^ n - 1) (2 ^ 64 - 1)

-- no bit at n or above is set, as R4.4 asks of a record and 7 of a bundle
unfoldable pub within : ℕ → ℕ → Bool
within set n = ltb set (2 ^ n)
