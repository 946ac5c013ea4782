-- A payload's two words and its 16 bytes: each is known by the other. That a word is below 2 to the power 64 is what its type says.
-- Assumes nothing.
use mathlib.Core.Path.{◌≡◌, refl, sym, ap, ap₂, ◌∙◌}
use mathlib.Core.Bool.{◌&&◌}
use mathlib.Core.List.{List, ◌++◌}
use Prim.Native.Nat.{ℕ, ◌^◌, ◌<◌}
use native.Mathlib.Omega.{arith}
use lib.Dec.{eqb}
use lib.ListN.{length, length-drop, take-append-drop}
use lib.Seq.{take_all}
use borrow.Author.Tests.{eq-eqb, ne_eqb}
use Rattle.octets.specs.Octets.{Bytes, number, bytes_of, same, blank, part, word_of}
use Rattle.octets.proofs.Numbers.{length-bytes_of, number-bytes_of}
use Rattle.octets.proofs.WordRead.{word_bytes}
use Rattle.octets.proofs.Same.{same-append, same-bytes_of, blank-append, blank-bytes_of}
use Rattle.payload.specs.declared.Payload.{Payload}
use Rattle.payload.specs.Payload.{payload_size, bytes, loaded}

-- both words fit 64 bits
pub record Fits (p : Payload) : Type 0 where
  pub high_fits : p.high < 2 ^ 64
  pub low_fits : p.low < 2 ^ 64

pub bytes-length : (p : Payload) → length (bytes p) ≡ payload_size
unfolding bytes bytes_of
bytes-length p = refl

-- two payloads have the same bytes exactly if they have the same words
pub same-words : (p r : Payload) → Fits p → Fits r → same (bytes p) (bytes r) ≡ (eqb p.high r.high && eqb p.low r.low)
unfolding bytes
same-words p r fp fr =
    same-append (bytes_of 8 p.high) (bytes_of 8 r.high) (bytes_of 8 p.low) (bytes_of 8 r.low) (length-bytes_of 8 p.high ∙ sym (length-bytes_of 8 r.high))
    ∙ ap₂ ◌&&◌ (same-bytes_of 8 p.high r.high fp.high_fits fr.high_fits) (same-bytes_of 8 p.low r.low fp.low_fits fr.low_fits)

-- and its bytes are zero where its words are
pub blank-words : (p : Payload) → Fits p → blank (bytes p) ≡ (eqb p.high 0 && eqb p.low 0)
unfolding bytes
blank-words p f =
    blank-append (bytes_of 8 p.high) (bytes_of 8 p.low)
    ∙ ap₂ ◌&&◌ (blank-bytes_of 8 p.high f.high_fits) (blank-bytes_of 8 p.low f.low_fits)

-- a payload is read back from its bytes,
abbrev pub payload_from : List ℕ → Payload
payload_from xs = record { high = number (part 0 8 xs); low = number (part 8 8 xs) }

module _ (p : Payload) (f : Fits p) where
  high-back : number (part 0 8 (bytes p)) ≡ p.high
  unfolding bytes bytes_of
  high-back = number-bytes_of 8 p.high f.high_fits

  low-back : number (part 8 8 (bytes p)) ≡ p.low
  unfolding bytes bytes_of
  low-back = number-bytes_of 8 p.low f.low_fits

  pub payload-back : payload_from (bytes p) ≡ p
  payload-back = ap₂ (λ (x y : ℕ). record { high = x; low = y }) high-back low-back

-- so it is known by them
pub payload-unique : (p r : Payload) → Fits p → Fits r → bytes p ≡ bytes r → p ≡ r
payload-unique p r fp fr e = sym (payload-back p fp) ∙ ap payload_from e ∙ payload-back r fr

-- what is loaded: the 16 bytes themselves, by their words, or zeros
pub loaded_self : (slice : List ℕ) → length slice ≡ payload_size → loaded slice ≡ slice
unfolding loaded
loaded_self slice l = rw (eq-eqb (length slice) payload_size l)

pub loaded-whole : (slice : List ℕ) → length slice ≡ payload_size → Bytes slice
    → bytes_of 8 (word_of (part 0 8 slice)) ++ bytes_of 8 (word_of (part 8 8 slice)) ≡ loaded slice
loaded-whole slice l b =
    ap₂ ◌++◌ (word_bytes slice 0 (omega arith) b) (word_bytes slice 8 (omega arith) b ∙ take_all 8 _ (simp length-drop (omega arith)))
    ∙ take-append-drop 8 slice
    ∙ sym (loaded_self slice l)

pub loaded-other : (slice : List ℕ) (p : Payload) → (length slice ≡ payload_size → ⊥) → p.high ≡ 0 → p.low ≡ 0 → bytes p ≡ loaded slice
unfolding loaded bytes bytes_of
loaded-other slice p l high low = rw (high, low, ne_eqb (length slice) payload_size l)
