-- A block's words and its 32 bytes: what is loaded and stored, when all are zero, and that a block is known by its bytes.
-- Assumes nothing.
use mathlib.Core.Path.{◌≡◌, refl, sym, ap, ap₂, ◌∙◌}
use mathlib.Core.Bool.{◌&&◌, cond}
use mathlib.Core.List.{List, ◌++◌}
use Prim.Native.Nat.{ℕ, ◌-◌, ◌^◌, ◌<◌}
use native.Mathlib.Omega.{arith}
use lib.Dec.{eqb}
use lib.ListN.{length, drop, length-drop, take-append-drop}
use lib.Seq.{drop-drop, take_all}
use borrow.Author.Tests.{eq-eqb, ne_eqb}
use Rattle.octets.specs.Octets.{Bytes, bytes_of, number, blank, part, word_of, words, filled}
use Rattle.octets.proofs.Numbers.{length_part, number-bytes_of}
use Rattle.octets.proofs.WordRead.{word_bytes}
use Rattle.octets.proofs.Same.{blank-append, blank-bytes_of}
use Rattle.payload.specs.Payload as payload
use Rattle.payload.proofs.Laws as payload-laws
use Rattle.block.specs.declared.Block.{Block}
use Rattle.block.specs.Block.{block_size, second_at, payload_at, bytes, loaded}

-- each word fits 64 bits, as its type says
pub record Fits (b : Block) : Type 0 where
  pub first_fits : b.first < 2 ^ 64
  pub second_fits : b.second < 2 ^ 64
  pub payload-fits : payload-laws.Fits b.payload

-- each word is zero
pub record Zeros (b : Block) : Type 0 where
  pub first-zero : b.first ≡ 0
  pub second-zero : b.second ≡ 0
  pub high-zero : b.payload.high ≡ 0
  pub low-zero : b.payload.low ≡ 0

pub bytes-length : (b : Block) → length (bytes b) ≡ block_size
unfolding bytes bytes_of payload.bytes
bytes-length b = refl

-- ---- what is loaded, and what is stored

-- the 32 bytes, by two words and a payload, or zeros
pub loaded-whole : (xs : List ℕ) (b : Block) → length xs ≡ block_size → Bytes xs → b.first ≡ word_of (part 0 8 xs)
    → b.second ≡ word_of (part second_at 8 xs) → payload.bytes b.payload ≡ payload.loaded (part payload_at (length xs - payload_at) xs)
    → bytes b ≡ loaded xs
unfolding loaded bytes
loaded-whole xs b l each first second e =
    let rest : length xs - payload_at ≡ payload.payload_size = omega arith in
    let last : payload.bytes b.payload ≡ drop payload_at xs =
    e
    ∙ ap (λ (k : ℕ). payload.loaded (part payload_at k xs)) rest
    ∙ payload-laws.loaded_self (part payload_at payload.payload_size xs) (length_part xs payload_at payload.payload_size (omega arith))
    ∙ take_all payload.payload_size (drop payload_at xs) (simp length-drop (omega arith)) in
    ap₂ ◌++◌ (ap (bytes_of 8) first ∙ word_bytes xs 0 (omega arith) each)
    (ap₂ ◌++◌ (ap (bytes_of 8) second ∙ word_bytes xs second_at (omega arith) each) (last ∙ sym (drop-drop 8 8 xs)) ∙ take-append-drop 8 (drop 8 xs))
    ∙ take-append-drop 8 xs
    ∙ rw (eq-eqb (length xs) block_size l)

pub loaded-other : (xs : List ℕ) (b : Block) → (length xs ≡ block_size → ⊥) → Zeros b → bytes b ≡ loaded xs
unfolding loaded bytes payload.bytes bytes_of
loaded-other xs b l z = rw (z.first-zero, z.second-zero, z.high-zero, z.low-zero, ne_eqb (length xs) block_size l)

-- the bytes of a slice of the right length
pub loaded_self : (xs : List ℕ) → length xs ≡ block_size → loaded xs ≡ xs
unfolding loaded
loaded_self xs l = rw (eq-eqb (length xs) block_size l)

pub stored-words : (b : Block) (xs : List ℕ)
    → filled xs b.first b.second b.payload.high b.payload.low ≡ cond (eqb (length xs) block_size) (bytes b) xs
unfolding filled words bytes payload.bytes
stored-words b xs = refl

-- ---- words and bytes

module _ (b : Block) (f : Fits b) where
  -- all 32 bytes are zero where each word is
  pub blank-words : blank (bytes b) ≡ (eqb b.first 0 && (eqb b.second 0 && (eqb b.payload.high 0 && eqb b.payload.low 0)))
  unfolding bytes
  blank-words =
      blank-append (bytes_of 8 b.first) (bytes_of 8 b.second ++ payload.bytes b.payload)
      ∙ ap₂ ◌&&◌ (blank-bytes_of 8 b.first f.first_fits)
      (blank-append (bytes_of 8 b.second) (payload.bytes b.payload)
      ∙ ap₂ ◌&&◌ (blank-bytes_of 8 b.second f.second_fits) (payload-laws.blank-words b.payload f.payload-fits))

  -- the words and the payload are read back
  pub first_back : number (part 0 8 (bytes b)) ≡ b.first
  unfolding bytes bytes_of
  first_back = number-bytes_of 8 b.first f.first_fits

  pub second_back : number (part second_at 8 (bytes b)) ≡ b.second
  unfolding bytes bytes_of
  second_back = number-bytes_of 8 b.second f.second_fits

pub payload-part : (b : Block) → part payload_at payload.payload_size (bytes b) ≡ payload.bytes b.payload
unfolding bytes payload.bytes bytes_of
payload-part b = refl

-- so a block is known by its bytes
block_from : List ℕ → Block
block_from xs =
    record { first = number (part 0 8 xs); second = number (part second_at 8 xs); payload = payload-laws.payload_from (part payload_at payload.payload_size xs) }

block_back : (b : Block) → Fits b → block_from (bytes b) ≡ b
unfolding block_from
block_back b f = rw (first_back b f, second_back b f, payload-part b, payload-laws.payload-back b.payload f.payload-fits)

pub block-unique : (a b : Block) → Fits a → Fits b → bytes a ≡ bytes b → a ≡ b
block-unique a b u v e = sym (block_back a u) ∙ ap block_from e ∙ block_back b v
