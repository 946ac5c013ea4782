-- A bundle as four words, and the words as its fields.
-- Assumes nothing.
use mathlib.Core.Path.{◌≡◌, refl, sym, ap, ap₂, ◌∙◌}
use mathlib.Core.Bool.{Bool, true, false, cond, ◌&&◌, and-eq-true_iff}
use mathlib.Core.List.{List, [], ◌∷◌, ◌++◌, append_assoc}
use Prim.Native.Nat.{ℕ, zero, suc, ◌+◌, ◌-◌, ◌*◌, ◌/◌, ◌%◌, ◌^◌, ◌<◌}
use native.Mathlib.Omega.{arith}
use lib.Dec.{eqb, lit<}
use borrow.Author.Tests.{eqb-true, eq-eqb, ne_eqb}
use lib.ListN.{length, get_or, take, drop}
use Rattle.octets.specs.Octets.{Bytes, number, bytes_of, part, word_of, words, filled}
use Rattle.octets.proofs.Numbers.{bytes_of-split, bytes_of-low, bytes_of-number, length_part, number-high, number-low}
use Rattle.octets.proofs.WordRead.{elements-part, word_number, word_bytes}
use Rattle.payload.specs.declared.Payload.{Payload}
use Rattle.payload.specs.Payload.{payload_size, bytes, loaded}
use Rattle.config.specs.declared.Slot.{Slot}
use Rattle.bundle.specs.declared.Header.{Header}
use Rattle.bundle.specs.Bundle.{bundle_size, payload_start, bundle_of, slot_in, header_in, payload_in, payload_loaded, encoded, slot_of}
use Rattle.bundle.specs.Inner.{encoded_like}

-- the first word of a bundle, by its slot
abbrev pub slot_word : Slot → ℕ
slot_word slot = slot.day * 0x1_0000_0000 + slot.sender * 0x100_0000 + slot.seq * 0x1_0000

rest-bytes : (slot : Slot) → slot.sender < 256 → slot.seq < 256 → Bytes (slot.sender ∷ slot.seq ∷ 0 ∷ 0 ∷ [])
rest-bytes slot hs hk zero = hs
rest-bytes slot hs hk (suc zero) = hk
rest-bytes slot hs hk (suc (suc zero)) = lit< tt
rest-bytes slot hs hk (suc (suc (suc zero))) = lit< tt
rest-bytes slot hs hk (suc (suc (suc (suc i)))) = lit< tt

slot-bytes : (slot : Slot) → slot.sender < 256 → slot.seq < 256
    → bytes_of 8 (slot_word slot) ≡ bytes_of 4 slot.day ++ (slot.sender ∷ slot.seq ∷ 0 ∷ 0 ∷ [])
unfolding number
slot-bytes slot hs hk =
    let low : List ℕ = slot.sender ∷ slot.seq ∷ 0 ∷ 0 ∷ [] in
    let high : slot_word slot / 256 ^ 4 ≡ slot.day = omega arith in
    let sum : slot_word slot ≡ slot.day * 256 ^ 4 + number low = omega arith in
    bytes_of-split 4 4 (slot_word slot)
    ∙ ap₂ ◌++◌ (ap (bytes_of 4) high) (ap (bytes_of 4) sum ∙ bytes_of-low 4 slot.day (number low) ∙ bytes_of-number low (rest-bytes slot hs hk))

-- four words filled in are an encoded bundle, where the first is the slot's word
pub filled-encoded : (h : Header) (payload : Payload) (first : ℕ) (out result : List ℕ) → result ≡ filled out first h.signers payload.high payload.low
    → first ≡ slot_word (slot_of h) → h.sender < 256 → h.seq < 256
    → result ≡ encoded h (bytes payload) out
unfolding filled words encoded bundle_of bytes
filled-encoded h payload first out result e is hs hk =
    e
    ∙ ap (λ (r : List ℕ). cond (eqb (length out) bundle_size) r out)
    (ap (λ (r : List ℕ). r ++ (bytes_of 8 h.signers ++ bytes payload)) (ap (bytes_of 8) is ∙ slot-bytes (slot_of h) hs hk)
    ∙ append_assoc (bytes_of 4 h.day) _ _)

-- the first word: the day above, the two reserved bytes below
module _ (bundle : List ℕ) (l : length bundle ≡ bundle_size) (known : Bytes bundle) where
  slot-number : word_of (part 0 8 bundle) ≡ number (part 0 8 bundle)
  slot-number = word_number (part 0 8 bundle) (length_part bundle 0 8 (omega arith))

  pub slot-day : word_of (part 0 8 bundle) / 0x1_0000_0000 ≡ (slot_in bundle).day
  unfolding slot_in
  slot-day = ap (λ (x : ℕ). x / 256 ^ 4) slot-number ∙ number-high bundle 4 4 (omega arith) known

  slot-reserved : word_of (part 0 8 bundle) % 0x1_0000 ≡ get_or bundle 6 0 * 256 + get_or bundle 7 0
  unfolding number
  slot-reserved =
      let two : number (part 6 2 bundle) ≡ get_or bundle 6 0 * 256 + get_or bundle 7 0 =
      ap number (sym (elements-part bundle 6 2 (omega arith))) ∙ omega arith in
      ap (λ (x : ℕ). x % 256 ^ 2) slot-number ∙ number-low bundle 6 2 (omega arith) known ∙ two

  pub reserved-zero : word_of (part 0 8 bundle) % 0x1_0000 ≡ 0 → (eqb (get_or bundle 6 0) 0 && eqb (get_or bundle 7 0) 0) ≡ true
  reserved-zero e =
      let sum = slot-reserved in
      (and-eq-true_iff _ _).1 (eq-eqb (get_or bundle 6 0) 0 (omega arith), eq-eqb (get_or bundle 7 0) 0 (omega arith))

  pub reserved-set : (word_of (part 0 8 bundle) % 0x1_0000 ≡ 0 → ⊥) → (eqb (get_or bundle 6 0) 0 && eqb (get_or bundle 7 0) 0) ≡ false
  reserved-set h = go (eqb (get_or bundle 6 0) 0 && eqb (get_or bundle 7 0) 0) refl
    where
      go : (b : Bool) → (eqb (get_or bundle 6 0) 0 && eqb (get_or bundle 7 0) 0) ≡ b → (eqb (get_or bundle 6 0) 0 && eqb (get_or bundle 7 0) 0) ≡ false
      go true e =
          let zeros = (and-eq-true_iff (eqb (get_or bundle 6 0) 0) (eqb (get_or bundle 7 0) 0)).0 e in
          let six = eqb-true (get_or bundle 6 0) 0 zeros.0 in
          let seven = eqb-true (get_or bundle 7 0) 0 zeros.1 in
          let sum = slot-reserved in
          absurd (h (omega arith))
      go false e = e

-- the signers are the second word
pub signers-word : (bundle : List ℕ) → length bundle ≡ bundle_size → word_of (part 8 8 bundle) ≡ (header_in bundle).signers
unfolding header_in
signers-word bundle l = word_number (part 8 8 bundle) (length_part bundle 8 8 (omega arith))

-- the payload is loaded from its part of the bundle
pub payload-part-loaded : (bundle : List ℕ) → length bundle ≡ bundle_size → loaded (take (bundle_size - payload_start) (drop payload_start bundle)) ≡ payload_loaded bundle
unfolding loaded payload_loaded
payload-part-loaded bundle l =
    rw (eq-eqb (length bundle) bundle_size l, eq-eqb (length (payload_in bundle)) payload_size (length_part bundle payload_start payload_size (omega arith)))

pub payload-not-loaded : (bundle : List ℕ) → (length bundle ≡ bundle_size → ⊥) → bytes (record { high = 0; low = 0 }) ≡ payload_loaded bundle
unfolding payload_loaded bytes bytes_of
payload-not-loaded bundle l = rw (ne_eqb (length bundle) bundle_size l)

-- and 16 bytes are loaded as they are
pub payload-loaded : (payload : List ℕ) → length payload ≡ payload_size → loaded payload ≡ payload
unfolding loaded
payload-loaded payload l = rw (eq-eqb (length payload) payload_size l)

-- the value loaded from a bundle of the right length has the payload's bytes
pub loaded-payload : (bundle : List ℕ) → length bundle ≡ bundle_size → payload_loaded bundle ≡ payload_in bundle
unfolding payload_loaded
loaded-payload bundle l = rw (eq-eqb (length bundle) bundle_size l)

-- four words filled in are a bundle in the slot of another one, where the first is that one's
pub filled-like : (bundle out result : List ℕ) (signers first : ℕ) (payload : Payload) → length bundle ≡ bundle_size → Bytes bundle
    → first ≡ word_of (part 0 8 bundle) → result ≡ filled out first signers payload.high payload.low
    → result ≡ encoded_like bundle signers (bytes payload) out
unfolding filled words encoded_like bytes
filled-like bundle out result signers first payload l known is e =
    e
    ∙ ap (λ (a : List ℕ). cond (eqb (length out) bundle_size) (a ++ (bytes_of 8 signers ++ bytes payload)) out)
    (ap (bytes_of 8) is ∙ word_bytes bundle 0 (omega arith) known)
    ∙ rw (eq-eqb (length bundle) bundle_size l)

pub like-none : (bundle out payload : List ℕ) (signers : ℕ) → (length bundle ≡ bundle_size → ⊥) → out ≡ encoded_like bundle signers payload out
unfolding encoded_like
like-none bundle out payload signers l = rw (ne_eqb (length bundle) bundle_size l)
