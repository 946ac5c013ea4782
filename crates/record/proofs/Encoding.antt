-- The 64 bytes of a record that is well-formed on values: the record is read back from them, they are well-formed, and they are blank for an empty
-- record alone. From the definitions of specs/Record.antt and the laws of numbers and their bytes.
-- Assumes nothing.
use mathlib.Core.Path.{◌≡◌, refl, sym, ap, ap₂, ◌∙◌}
use mathlib.Core.Bool.{Bool, true, false, cond, true≢false, and-eq-true_iff}
use mathlib.Core.List.{List, ◌++◌}
use Prim.Native.Nat.{ℕ, ◌≤◌, ◌<◌, ◌^◌}
use native.Mathlib.Nat.{le_of_eq, add-zero}
use native.Mathlib.Omega.{arith}
use lib.Dec.{ltb, eqb}
use lib.ListN.{length, take, drop, replicate, length-append}
use lib.Pow.{pow_pos}
use lib.Seq.{take_all, take-append_seam, drop-append-add}
use borrow.Author.Tests.{leb-true, le-leb}
use Rattle.octets.specs.Octets.{same, blank, part, bytes_of, number}
use Rattle.octets.proofs.Numbers.{number-bytes_of, length_part}
use Rattle.octets.proofs.Same.{blank-zeros}
use Rattle.payload.specs.Payload.{payload_size as payload_size}
use Rattle.signers.specs.Signers.{within, member, size}
use Rattle.signers.proofs.Members.{lt-within}
use Rattle.config.specs.declared.Config.{Config}
use Rattle.config.specs.Config.{quorum, record_size}
use Rattle.protocol.specs.Update.{Note, Record, Empty, Held, Delivered, signers_of, payload_of, note_of, is_empty}
use Rattle.note.specs.Note as note
use Rattle.note.proofs.Encoding as note-laws
use Rattle.protocol.proofs.WellFormed.{Bundled, NoteWellFormed, WellFormed}
use Rattle.record.specs.Record.{layout, encoding, payload_at, note_at, state_field, signers_field, payload_field, note_field, decoded, state_allows, well_formed}

-- a record's bytes are 64, and its fields stand where they were put
module _ (state signers : ℕ) (payload aside : List ℕ) where
  layout-length : length payload ≡ payload_size → length aside ≡ note.note_size → length (layout state signers payload aside) ≡ record_size
  unfolding layout bytes_of
  layout-length l k = let both = length-append payload aside in omega arith

  layout-signers : signers < 2 ^ 64 → signers_field (layout state signers payload aside) ≡ signers
  unfolding layout bytes_of
  layout-signers h = number-bytes_of 8 signers h

  layout-payload : length payload ≡ payload_size → payload_field (layout state signers payload aside) ≡ payload
  unfolding layout bytes_of
  layout-payload l = ap (λ (k : ℕ). take k (payload ++ aside)) (sym l) ∙ take-append_seam payload aside

  layout-note : length payload ≡ payload_size → length aside ≡ note.note_size → note_field (layout state signers payload aside) ≡ aside
  unfolding layout bytes_of
  layout-note l k =
      ap (λ (i : ℕ). take note.note_size (drop i (payload ++ aside))) (sym l ∙ sym (add-zero (length payload)))
      ∙ ap (take note.note_size) (drop-append-add payload aside 0)
      ∙ take_all note.note_size aside (le_of_eq k)

  layout-reserved : blank (part 1 7 (layout state signers payload aside)) ≡ true
  unfolding layout bytes_of same
  layout-reserved = refl

  layout-state : ltb state 3 ≡ true → ltb (state_field (layout state signers payload aside)) 3 ≡ true
  unfolding layout
  layout-state e = e

-- what is asked of well-formed bytes, one by one
says-well-formed : (config : Config) (sender : ℕ) (bytes : List ℕ) → ltb (state_field bytes) 3 ≡ true → blank (part 1 7 bytes) ≡ true
    → within (signers_field bytes) config.n ≡ true → state_allows config sender bytes (decoded bytes) ≡ true
    → note.well_formed config sender (payload_field bytes) (note_field bytes) ≡ true → well_formed config sender bytes ≡ true
unfolding well_formed
says-well-formed config sender bytes a b c d e =
    (and-eq-true_iff _ _).1 (a, (and-eq-true_iff _ _).1 (b, (and-eq-true_iff _ _).1 (c, (and-eq-true_iff _ _).1 (d, e))))

module _ (n sender q own : ℕ) where
  -- a record's bytes are 64
  pub encoding-length : (r : Record) → WellFormed n sender q own r → length (encoding r) ≡ record_size
  unfolding encoding
  encoding-length Empty h = refl
  encoding-length (Held signers payload aside) h =
      layout-length 1 signers payload (note.encoding aside) h.0.whole (note-laws.encoding-length n sender payload aside h.2)
  encoding-length (Delivered signers payload aside) h =
      layout-length 2 signers payload (note.encoding aside) h.0.whole (note-laws.encoding-length n sender payload aside h.2)

  module _ (most : n ≤ 64) where
    -- the fields of its bytes are the record's
    fields : (state signers : ℕ) (payload : List ℕ) (aside : Note) → Bundled n sender signers payload → NoteWellFormed n sender payload aside
        → (signers_field (layout state signers payload (note.encoding aside)) ≡ signers)
        × (payload_field (layout state signers payload (note.encoding aside)) ≡ payload)
        × (note.decoded (note_field (layout state signers payload (note.encoding aside))) ≡ aside)
    fields state signers payload aside bundled fine = (
      layout-signers state signers payload (note.encoding aside) (note-laws.bundled-fits n sender signers payload most bundled),
      layout-payload state signers payload (note.encoding aside) bundled.whole,
      ap note.decoded (layout-note state signers payload (note.encoding aside) bundled.whole (note-laws.encoding-length n sender payload aside fine))
          ∙ note-laws.decoded-encoding n sender payload most aside fine,
    )

    -- so the record is read back from them
    pub decoded-encoding : (r : Record) → WellFormed n sender q own r → decoded (encoding r) ≡ r
    unfolding decoded encoding layout
    decoded-encoding Empty h = refl
    decoded-encoding (Held signers payload aside) h =
        let (a, b, c) = fields 1 signers payload aside h.0 h.2 in
        ap₂ (λ (x : ℕ) (y : List ℕ). Held x y (note.decoded (note_field (layout 1 signers payload (note.encoding aside))))) a b ∙ ap (Held signers payload) c
    decoded-encoding (Delivered signers payload aside) h =
        let (a, b, c) = fields 2 signers payload aside h.0 h.2 in
        ap₂ (λ (x : ℕ) (y : List ℕ). Delivered x y (note.decoded (note_field (layout 2 signers payload (note.encoding aside))))) a b ∙ ap (Delivered signers payload) c

    pub encoding-fields : (r : Record) → is_empty r ≡ false → WellFormed n sender q own r
        → (signers_field (encoding r) ≡ signers_of r) × (payload_field (encoding r) ≡ payload_of r) × (note.decoded (note_field (encoding r)) ≡ note_of r)
    unfolding encoding
    encoding-fields Empty e h = absurd (true≢false e)
    encoding-fields (Held signers payload aside) e h = fields 1 signers payload aside h.0 h.2
    encoding-fields (Delivered signers payload aside) e h = fields 2 signers payload aside h.0 h.2

-- zeros are the bytes of an empty record
pub empty-encoding : replicate record_size 0 ≡ encoding Empty
unfolding encoding
empty-encoding = refl

-- and no other record's bytes are blank
pub blank-encoding : (r : Record) → blank (encoding r) ≡ is_empty r
unfolding encoding layout same
blank-encoding Empty = refl
blank-encoding (Held signers payload aside) = refl
blank-encoding (Delivered signers payload aside) = refl

-- they are well-formed for the configuration and the sender by which the record is
module _ (config : Config) (sender : ℕ) (most : config.n ≤ 64) where
  some-well-formed : (state signers : ℕ) (payload : List ℕ) (aside : Note) → ltb state 3 ≡ true
      → Bundled config.n sender signers payload → NoteWellFormed config.n sender payload aside
      → state_allows config sender (layout state signers payload (note.encoding aside)) (decoded (layout state signers payload (note.encoding aside))) ≡ true
      → well_formed config sender (layout state signers payload (note.encoding aside)) ≡ true
  some-well-formed state signers payload aside known bundled fine allows =
      let bytes : List ℕ = layout state signers payload (note.encoding aside) in
      let whole = note-laws.encoding-length config.n sender payload aside fine in
      says-well-formed config sender bytes (layout-state state signers payload (note.encoding aside) known) (layout-reserved state signers payload (note.encoding aside))
      (ap (λ (x : ℕ). within x config.n) (layout-signers state signers payload (note.encoding aside) (note-laws.bundled-fits config.n sender signers payload most bundled))
      ∙ bundled.known)
      allows
      (ap₂ (note.well_formed config sender) (layout-payload state signers payload (note.encoding aside) bundled.whole)
      (layout-note state signers payload (note.encoding aside) bundled.whole whole)
      ∙ note-laws.encoding-well-formed config sender payload most aside fine)

  pub encoding-well-formed : (r : Record) → WellFormed config.n sender (quorum config) config.own r → well_formed config sender (encoding r) ≡ true
  unfolding encoding state_allows number decoded
  encoding-well-formed Empty h =
      says-well-formed config sender (encoding Empty) refl (blank-zeros 7) (lt-within 0 config.n (pow_pos config.n)) (blank-zeros 64)
      (note-laws.blank-well-formed config sender (payload_field (encoding Empty)) (note_field (encoding Empty)) refl (blank-zeros note.note_size))
  encoding-well-formed (Held signers payload aside) h =
      some-well-formed 1 signers payload aside refl h.0 h.2
      (ap (state_allows config sender (encoding (Held signers payload aside)))
      (decoded-encoding config.n sender (quorum config) config.own most (Held signers payload aside) h)
      ∙ (and-eq-true_iff _ _).1 (h.0.authentic, h.1))
  encoding-well-formed (Delivered signers payload aside) h =
      some-well-formed 2 signers payload aside refl h.0 h.2
      (ap (state_allows config sender (encoding (Delivered signers payload aside)))
      (decoded-encoding config.n sender (quorum config) config.own most (Delivered signers payload aside) h)
      ∙ (and-eq-true_iff _ _).1 (h.0.authentic, le-leb _ _ h.1))

-- and well-formed bytes write a record that is well-formed on values
pub decoded-well-formed : (config : Config) (sender : ℕ) (bytes : List ℕ) → length bytes ≡ record_size → well_formed config sender bytes ≡ true
    → WellFormed config.n sender (quorum config) config.own (decoded bytes)
unfolding well_formed decoded state_allows
decoded-well-formed config sender bytes l e =
    let (state, rest) = (and-eq-true_iff (ltb (state_field bytes) 3) _).0 e in
    let (zeros, others) = (and-eq-true_iff (blank (part 1 7 bytes)) _).0 rest in
    let (known, last) = (and-eq-true_iff (within (signers_field bytes) config.n) _).0 others in
    let (fit, noted) = (and-eq-true_iff (state_allows config sender bytes (decoded bytes)) _).0 last in
    go known (note-laws.decoded-well-formed config sender (payload_field bytes) (note_field bytes) (length_part bytes note_at note.note_size (omega arith)) noted)
    (eqb (state_field bytes) 0) (eqb (state_field bytes) 1) fit
  where
    whole : length (payload_field bytes) ≡ payload_size
    whole = length_part bytes payload_at payload_size (omega arith)

    aside : Note
    aside = note.decoded (note_field bytes)

    go : within (signers_field bytes) config.n ≡ true → NoteWellFormed config.n sender (payload_field bytes) (note.decoded (note_field bytes)) → (a b : Bool)
        → state_allows config sender bytes
        (cond a Empty (cond b (Held (signers_field bytes) (payload_field bytes) aside) (Delivered (signers_field bytes) (payload_field bytes) aside))) ≡ true
        → WellFormed config.n sender (quorum config) config.own
        (cond a Empty (cond b (Held (signers_field bytes) (payload_field bytes) aside) (Delivered (signers_field bytes) (payload_field bytes) aside)))
    go known fine true b f = tt
    go known fine false true f =
        let (signed, ours) = (and-eq-true_iff (member (signers_field bytes) sender) _).0 f in
        (record { known = known; authentic = signed; whole = whole }, ours, fine)
    go known fine false false f =
        let (signed, enough) = (and-eq-true_iff (member (signers_field bytes) sender) _).0 f in
        (record { known = known; authentic = signed; whole = whole }, leb-true (quorum config) (size (signers_field bytes)) enough, fine)
