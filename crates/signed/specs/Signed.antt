-- R18.2: numbers of 16 bits that may be below zero.
-- Assumes nothing.
use Rattle.std.specs.Prelude.{◌≡◌, cond, ℕ, ◌-◌, ◌<◌, ltb, ℤ, pos, negsuc}
use Rattle.std.proofs.Math.IntN.{sub_ℕ}
use Rattle.std.specs.Int.Signed.{mag}

-- what 16 bits write, read as signed: from 32,768 on it is 65,536 less
unfoldable pub signed : ℕ → ℤ
signed bits = cond (ltb bits 0x8000) (pos bits) (sub_ℕ bits 0x1_0000)

-- and back: the bits that write a number; for one below zero they are those of 65,536 more
abbrev pub bits_of : ℤ → ℕ
bits_of (pos n) = n
bits_of (negsuc n) = 0xffff - n

-- each is the other's inverse
abbrev pub BitsWriteNumbers : Type 0
BitsWriteNumbers = (bits : ℕ) → bits < 0x1_0000 → bits_of (signed bits) ≡ bits

abbrev pub NumbersReadBack : Type 0
NumbersReadBack = (z : ℤ) → mag z < 0x8000 → (signed (bits_of z) ≡ z) × (bits_of z < 0x1_0000)
