-- Which bits write a number of 16 bits, and which number they write; and std's word for it.
-- Assumes nothing.
use mathlib.Core.Path.{◌≡◌, refl, ap, ◌∙◌}
use mathlib.Core.Bool.{Bool, true, false}
use Prim.Native.Nat.{ℕ, ◌-◌, ◌≤◌, ◌<◌}
use native.Mathlib.Omega.{arith}
use lib.Dec.{ltb}
use lib.IntN.{pos, negsuc}
use lib.Signed.{mag}
use mir.Syntax.{w16}
use mir.Val.{to_z}
use borrow.Author.Tests.{ltb-true, ltb-false, lt-ltb, le-ltb}
use Rattle.signed.specs.Signed.{signed, bits_of, BitsWriteNumbers, NumbersReadBack}

-- 16 bits that write a number from 0 on, and one below zero
pub signed_low : (bits : ℕ) → bits < 32768 → signed bits ≡ pos bits
unfolding signed
signed_low bits h = rw (lt-ltb bits 32768 h)

pub signed_high : (bits : ℕ) → 32768 ≤ bits → bits < 65536 → signed bits ≡ negsuc (65535 - bits)
unfolding signed
signed_high bits h k = rw (le-ltb bits 32768 h, lt-ltb bits 65536 k) (ap negsuc (omega arith))

pub signed-fits : (bits : ℕ) → bits < 65536 → mag (signed bits) < 32768
signed-fits bits h = go (ltb bits 32768) refl
  where
    go : (m : Bool) → ltb bits 32768 ≡ m → mag (signed bits) < 32768
    go true p = rw (signed_low bits (ltb-true bits 32768 p)) (ltb-true bits 32768 p)
    go false p = let high = ltb-false bits 32768 p in rw (signed_high bits high h) (omega arith)

-- std's word for the number that 16 bits write says the same
pub signed_cast : (bits : ℕ) → bits < 65536 → to_z w16 bits ≡ signed bits
signed_cast bits h = go (ltb bits 32768) refl
  where
    go : (m : Bool) → ltb bits 32768 ≡ m → to_z w16 bits ≡ signed bits
    go true p = let low = ltb-true bits 32768 p in rw (signed_low bits low, lt-ltb bits 32768 low)
    go false p = let high = ltb-false bits 32768 p in rw (signed_high bits high h, le-ltb bits 32768 high) (ap negsuc (omega arith))

-- the bits of a number, and the number of bits
pub bits-write-numbers : BitsWriteNumbers
bits-write-numbers bits h = go (ltb bits 32768) refl
  where
    go : (m : Bool) → ltb bits 32768 ≡ m → bits_of (signed bits) ≡ bits
    go true p = rw (signed_low bits (ltb-true bits 32768 p))
    go false p = rw (signed_high bits (ltb-false bits 32768 p) h) (omega arith)

pub numbers-read-back : NumbersReadBack
numbers-read-back (pos n) h = (signed_low n h, omega arith)
numbers-read-back (negsuc n) h = (signed_high (65535 - n) (omega arith) (omega arith) ∙ ap negsuc (omega arith), omega arith)
