-- A note as a program has it, two words and a payload: its bytes, the note on values that they write, and when they are well-formed, by its words.
-- Assumes nothing.
use mathlib.Core.Path.{◌≡◌, refl, sym, ap, ap₂, ◌∙◌}
use mathlib.Core.Bool.{Bool, true, false, not, ◌&&◌}
use mathlib.Core.List.{List}
use Prim.Native.Nat.{ℕ, ◌^◌, ◌<◌}
use lib.Dec.{eqb}
use lib.ListN.{length}
use borrow.Author.Tests.{eq-eqb, ne_eqb, eqb-true, eqb-false}
use Rattle.octets.specs.Octets.{Bytes, bytes_of, same, blank, part}
use Rattle.octets.proofs.Numbers.{number-bytes_of, bytes-bytes_of, bytes-append}
use Rattle.octets.proofs.Same.{blank-bytes_of}
use Rattle.payload.specs.declared.Payload.{Payload}
use Rattle.payload.specs.Payload as payload
use Rattle.payload.proofs.Laws as payload-laws
use Rattle.block.specs.declared.Block.{Block}
use Rattle.block.specs.Block as block
use Rattle.block.specs.Block.{second_at}
use Rattle.block.proofs.Laws as block-laws
use Rattle.signers.specs.Signers.{member, within}
use Rattle.config.specs.declared.Config.{Config}
use Rattle.protocol.specs.Update as protocol
use Rattle.protocol.specs.Update.{Nothing, Noted, noted_signers, notes_other}
use Rattle.note.specs.declared.Note.{Note}
use Rattle.note.specs.Note.{note_size, encoding, signers_field, payload_field, decoded, note_allows, well_formed, bytes}

-- each word fits 64 bits, as its type says
pub record Fits (n : Note) : Type 0 where
  pub signers-fits : n.signers < 2 ^ 64
  pub zero-fits : n.zero < 2 ^ 64
  pub payload-fits : payload-laws.Fits n.payload

-- its words in their order
abbrev pub block_of : Note → Block
block_of n = record { first = n.signers; second = n.zero; payload = n.payload }

pub block-bytes : (n : Note) → block.bytes (block_of n) ≡ bytes n
unfolding block.bytes bytes
block-bytes n = refl

pub block-fits : (n : Note) → Fits n → block-laws.Fits (block_of n)
block-fits n f = record { first_fits = f.signers-fits; second_fits = f.zero-fits; payload-fits = f.payload-fits }

pub bytes-length : (n : Note) → length (bytes n) ≡ note_size
unfolding bytes payload.bytes bytes_of
bytes-length n = refl

pub bytes-each : (n : Note) → Bytes (bytes n)
unfolding bytes payload.bytes
bytes-each n =
    bytes-append (bytes_of 8 n.signers) _ (bytes-bytes_of 8 n.signers)
    (bytes-append (bytes_of 8 n.zero) _ (bytes-bytes_of 8 n.zero)
    (bytes-append (bytes_of 8 n.payload.high) _ (bytes-bytes_of 8 n.payload.high) (bytes-bytes_of 8 n.payload.low)))

-- ---- what is made

pub nothing-bytes : bytes (record { signers = 0; zero = 0; payload = record { high = 0; low = 0 } }) ≡ encoding Nothing
unfolding bytes encoding payload.bytes bytes_of
nothing-bytes = refl

pub noted-bytes : (signers : ℕ) (p : Payload) → bytes (record { signers = signers; zero = 0; payload = p }) ≡ encoding (Noted signers (payload.bytes p))
unfolding bytes encoding bytes_of
noted-bytes signers p = refl

-- ---- the fields of its bytes

pub payload-words : (n : Note) → payload_field (bytes n) ≡ payload.bytes n.payload
unfolding bytes payload.bytes bytes_of
payload-words n = refl

module _ (n : Note) (f : Fits n) where
  pub signers-words : signers_field (bytes n) ≡ n.signers
  unfolding bytes bytes_of
  signers-words = number-bytes_of 8 n.signers f.signers-fits

  pub zero-words : blank (part second_at 8 (bytes n)) ≡ eqb n.zero 0
  unfolding bytes bytes_of
  zero-words = blank-bytes_of 8 n.zero f.zero-fits

  -- the note on values
  pub nothing-words : n.signers ≡ 0 → decoded (bytes n) ≡ Nothing
  unfolding decoded
  nothing-words e = rw (signers-words, e)

  pub noted-words : (n.signers ≡ 0 → ⊥) → decoded (bytes n) ≡ Noted n.signers (payload.bytes n.payload)
  unfolding decoded
  noted-words some = rw (signers-words, ne_eqb n.signers 0 some, payload-words n)

  pub noted-signers : noted_signers (decoded (bytes n)) ≡ n.signers
  noted-signers = go (eqb n.signers 0) refl
    where
      go : (b : Bool) → eqb n.signers 0 ≡ b → noted_signers (decoded (bytes n)) ≡ n.signers
      go true e = ap noted_signers (nothing-words (eqb-true n.signers 0 e)) ∙ sym (eqb-true n.signers 0 e)
      go false e = ap noted_signers (noted-words (eqb-false n.signers 0 e))

  -- whether it notes another payload
  pub other-nothing : (p : List ℕ) → n.signers ≡ 0 → notes_other (decoded (bytes n)) p ≡ false
  other-nothing p e = ap (λ (x : protocol.Note). notes_other x p) (nothing-words e)

  pub other-noted : (p : List ℕ) → (n.signers ≡ 0 → ⊥) → notes_other (decoded (bytes n)) p ≡ not (same (payload.bytes n.payload) p)
  other-noted p some = ap (λ (x : protocol.Note). notes_other x p) (noted-words some)

  -- ---- when it is well-formed

  module _ (config : Config) (sender : ℕ) (held : List ℕ) where
    pub malformed-zero : (n.zero ≡ 0 → ⊥) → well_formed config sender held (bytes n) ≡ false
    unfolding well_formed
    malformed-zero e = ap (λ (b : Bool). b && note_allows config sender held (bytes n) (decoded (bytes n))) (zero-words ∙ ne_eqb n.zero 0 e)

    -- by the note that its bytes write
    allowed : n.zero ≡ 0 → (note : protocol.Note) → decoded (bytes n) ≡ note → well_formed config sender held (bytes n) ≡ note_allows config sender held (bytes n) note
    unfolding well_formed
    allowed z note e = ap₂ ◌&&◌ (zero-words ∙ eq-eqb n.zero 0 z) (ap (note_allows config sender held (bytes n)) e)

    pub well-formed-nothing : n.zero ≡ 0 → n.signers ≡ 0 → well_formed config sender held (bytes n) ≡ blank (payload.bytes n.payload)
    unfolding note_allows
    well-formed-nothing z e =
        allowed z Nothing (nothing-words e)
        ∙ ap blank (sym (block-bytes n))
        ∙ block-laws.blank-words (block_of n) (block-fits n f)
        ∙ ap₂ ◌&&◌ (eq-eqb n.signers 0 e) (ap₂ ◌&&◌ (eq-eqb n.zero 0 z) (sym (payload-laws.blank-words n.payload f.payload-fits)))

    pub well-formed-noted : n.zero ≡ 0 → (n.signers ≡ 0 → ⊥)
        → well_formed config sender held (bytes n) ≡ (within n.signers config.n && (member n.signers sender && not (same (payload.bytes n.payload) held)))
    unfolding note_allows
    well-formed-noted z some = allowed z (Noted n.signers (payload.bytes n.payload)) (noted-words some)
