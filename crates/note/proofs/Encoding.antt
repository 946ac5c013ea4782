-- The 32 bytes of a note that is well-formed on values: the note is read back from them, and they are well-formed; and well-formed bytes are those of the note
-- that they write. From the definitions of specs/Note.antt and the laws of numbers and their bytes.
-- Assumes nothing.
use mathlib.Core.Path.{◌≡◌, refl, sym, ap, ap₂, ◌∙◌}
use mathlib.Core.Bool.{Bool, true, false, cond, not, true≢false, and-eq-true_iff}
use mathlib.Core.List.{List, ◌++◌}
use Prim.Native.Nat.{ℕ, ◌≤◌, ◌<◌, ◌^◌}
use native.Mathlib.Nat.{lt_of_lt_of_le}
use native.Mathlib.Omega.{arith}
use lib.Dec.{eqb}
use lib.ListN.{length, drop, replicate, length-drop, take-append-drop}
use lib.Pow.{pow_mono}
use lib.Seq.{take_all, drop-drop}
use borrow.Author.Tests.{ne_eqb, eqb-true, not-true}
use Rattle.octets.specs.Octets.{Bytes, same, blank, part, bytes_of, number}
use Rattle.octets.proofs.Numbers.{number-bytes_of, number-part, length_part}
use Rattle.octets.proofs.Same.{same-flip, blank-says}
use Rattle.payload.specs.Payload.{payload_size}
use Rattle.block.specs.Block.{second_at, payload_at}
use Rattle.signers.specs.Signers.{within, member}
use Rattle.signers.proofs.Members.{within-lt, nobody}
use Rattle.config.specs.declared.Config.{Config}
use Rattle.protocol.specs.Update.{Note, Nothing, Noted, noted_signers}
use Rattle.protocol.proofs.WellFormed.{Bundled, NoteWellFormed}
use Rattle.note.specs.Note.{note_size, encoding, signers_field, payload_field, decoded, note_allows, well_formed, bytes}
use Rattle.note.specs.declared.Note as declared
use Rattle.note.proofs.Words.{bytes-length, bytes-each}

-- known signers fit a word
pub bundled-fits : (n sender signers : ℕ) (payload : List ℕ) → n ≤ 64 → Bundled n sender signers payload → signers < 2 ^ 64
bundled-fits n sender signers payload most b = lt_of_lt_of_le (within-lt signers n b.known) (pow_mono most)

-- there is one
bundled-some : (n sender signers : ℕ) (payload : List ℕ) → Bundled n sender signers payload → signers ≡ 0 → ⊥
bundled-some n sender signers payload b e = true≢false (sym b.authentic ∙ ap (λ (x : ℕ). member x sender) e ∙ nobody sender)

-- ---- the bytes of a note

module _ (signers : ℕ) (payload : List ℕ) where
  noted-signers : signers < 2 ^ 64 → signers_field (encoding (Noted signers payload)) ≡ signers
  unfolding encoding bytes_of
  noted-signers h = number-bytes_of 8 signers h

  noted-payload : length payload ≡ payload_size → payload_field (encoding (Noted signers payload)) ≡ payload
  unfolding encoding bytes_of
  noted-payload l = take_all payload_size payload (omega arith)

  noted-zero : blank (part second_at 8 (encoding (Noted signers payload))) ≡ true
  unfolding encoding bytes_of same
  noted-zero = refl

-- the signers of the note that they write are in their place, also where nothing is noted
pub decoded-signers : (bytes : List ℕ) → noted_signers (decoded bytes) ≡ signers_field bytes
unfolding decoded
decoded-signers bytes = go (eqb (signers_field bytes) 0) refl
  where
    go : (b : Bool) → eqb (signers_field bytes) 0 ≡ b → noted_signers (cond b Nothing (Noted (signers_field bytes) (payload_field bytes))) ≡ signers_field bytes
    go true e = sym (eqb-true (signers_field bytes) 0 e)
    go false e = refl

-- where nothing is noted all are zero
decoded-nothing : decoded (encoding Nothing) ≡ Nothing
unfolding decoded encoding number
decoded-nothing = refl

nothing-well-formed : (config : Config) (sender : ℕ) (held : List ℕ) → well_formed config sender held (encoding Nothing) ≡ true
unfolding well_formed note_allows encoding decoded number same
nothing-well-formed config sender held = refl

pub blank-well-formed : (config : Config) (sender : ℕ) (held bytes : List ℕ) → length bytes ≡ note_size → blank bytes ≡ true → well_formed config sender held bytes ≡ true
unfolding encoding
blank-well-formed config sender held bytes l z =
    ap (well_formed config sender held) (blank-says bytes z ∙ ap (λ (k : ℕ). replicate k 0) l) ∙ nothing-well-formed config sender held

module _ (n sender : ℕ) (held : List ℕ) where
  -- they are 32
  pub encoding-length : (note : Note) → NoteWellFormed n sender held note → length (encoding note) ≡ note_size
  unfolding encoding bytes_of
  encoding-length Nothing h = refl
  encoding-length (Noted signers payload) h = let l = h.0.whole in omega arith

module _ (n sender : ℕ) (held : List ℕ) (most : n ≤ 64) where
  -- the note is read back from them
  pub decoded-encoding : (note : Note) → NoteWellFormed n sender held note → decoded (encoding note) ≡ note
  unfolding decoded
  decoded-encoding Nothing h = decoded-nothing
  decoded-encoding (Noted signers payload) h =
      let is = noted-signers signers payload (bundled-fits n sender signers payload most h.0) in
      rw (is, ne_eqb signers 0 (bundled-some n sender signers payload h.0), noted-payload signers payload h.0.whole)

-- they are well-formed
pub encoding-well-formed : (config : Config) (sender : ℕ) (held : List ℕ) → config.n ≤ 64 → (note : Note) → NoteWellFormed config.n sender held note
    → well_formed config sender held (encoding note) ≡ true
unfolding well_formed note_allows
encoding-well-formed config sender held most Nothing h = nothing-well-formed config sender held
encoding-well-formed config sender held most (Noted signers payload) h =
    rw (noted-zero signers payload, decoded-encoding config.n sender held most (Noted signers payload) h, h.0.known, h.0.authentic)
    (ap not (same-flip payload held ∙ h.1))

-- well-formed bytes write a note that is well-formed on values
pub decoded-well-formed : (config : Config) (sender : ℕ) (held bytes : List ℕ) → length bytes ≡ note_size → well_formed config sender held bytes ≡ true
    → NoteWellFormed config.n sender held (decoded bytes)
unfolding well_formed decoded note_allows
decoded-well-formed config sender held bytes l e = go (eqb (signers_field bytes) 0) ((and-eq-true_iff (blank (part second_at 8 bytes)) _).0 e).1
  where
    go : (b : Bool) → note_allows config sender held bytes (cond b Nothing (Noted (signers_field bytes) (payload_field bytes))) ≡ true
        → NoteWellFormed config.n sender held (cond b Nothing (Noted (signers_field bytes) (payload_field bytes)))
    go true f = tt
    go false f =
        let (known, rest) = (and-eq-true_iff (within (signers_field bytes) config.n) _).0 f in
        let (signed, other) = (and-eq-true_iff (member (signers_field bytes) sender) _).0 rest in (
          record { known = known; authentic = signed; whole = length_part bytes payload_at payload_size (omega arith) },
          same-flip held (payload_field bytes) ∙ not-true (same (payload_field bytes) held) other,
        )

-- and are its bytes
pub encoding-decoded : (config : Config) (sender : ℕ) (held bytes : List ℕ) → length bytes ≡ note_size → Bytes bytes → well_formed config sender held bytes ≡ true
    → encoding (decoded bytes) ≡ bytes
unfolding well_formed decoded note_allows encoding
encoding-decoded config sender held bytes l each e = go (eqb (signers_field bytes) 0) ((and-eq-true_iff (blank (part second_at 8 bytes)) _).0 e).1
  where
    zero : part second_at 8 bytes ≡ replicate 8 0
    zero =
        blank-says (part second_at 8 bytes) ((and-eq-true_iff (blank (part second_at 8 bytes)) _).0 e).0
        ∙ ap (λ (k : ℕ). replicate k 0) (length_part bytes second_at 8 (omega arith))

    go : (b : Bool) → note_allows config sender held bytes (cond b Nothing (Noted (signers_field bytes) (payload_field bytes))) ≡ true
        → encoding (cond b Nothing (Noted (signers_field bytes) (payload_field bytes))) ≡ bytes
    go true f = sym (blank-says bytes f ∙ ap (λ (k : ℕ). replicate k 0) l)
    go false f =
        ap₂ ◌++◌ (number-part bytes 0 8 each (omega arith))
        (ap₂ ◌++◌ (sym zero) (take_all payload_size (drop payload_at bytes) (simp length-drop (omega arith)) ∙ sym (drop-drop 8 8 bytes)) ∙ take-append-drop 8 (drop 8 bytes))
        ∙ take-append-drop 8 bytes

-- so a program's note that is well-formed has the bytes of the note that it stands for
pub note-reads : (n : declared.Note) (config : Config) (sender : ℕ) (held : List ℕ) → well_formed config sender held (bytes n) ≡ true
    → encoding (decoded (bytes n)) ≡ bytes n
note-reads n config sender held e = encoding-decoded config sender held (bytes n) (bytes-length n) (bytes-each n) e
