-- A well-formed record as a program has it: its two halves are the entries of the record on values, and their payloads differ where both have signers.
-- Assumes nothing.
use mathlib.Core.Path.{◌≡◌, refl, sym, ap, ◌∙◌, subst}
use mathlib.Core.Logic.{inl, inr}
use mathlib.Core.Bool.{Bool, true, false, true≢false, and-eq-true_iff}
use Prim.Native.Nat.{ℕ, ◌<◌, ◌^◌}
use native.Mathlib.Omega.{arith}
use lib.Dec.{eqb}
use borrow.Author.Tests.{eqb-true, eqb-false}
use Rattle.octets.specs.Octets.{blank}
use Rattle.payload.specs.Payload as payload
use Rattle.block.specs.Block as block
use Rattle.block.proofs.Laws as block-laws
use Rattle.config.specs.declared.Config.{Config}
use Rattle.protocol.specs.Update as protocol
use Rattle.protocol.specs.Update.{signers_of, payload_of, note_of}
use Rattle.protocol.proofs.WellFormed.{NoteWellFormed}
use Rattle.note.specs.declared.Note.{Note}
use Rattle.note.specs.Note as note
use Rattle.note.proofs.Words as note-words
use Rattle.note.proofs.Encoding as note-laws
use Rattle.record.specs.declared.Record.{Record}
use Rattle.record.specs.Record.{decoded, well_formed, bytes}
use Rattle.record.specs.Inner.{held_block, HasState}
use Rattle.record.proofs.Words.{Fits, blank-halves, blank-signers, empty-words, held-words, delivered-words}
use Rattle.record.proofs.WellFormed.{note_fine, well-formed-empty, malformed-note, well-formed-has-state}
use Rattle.equivocators.specs.Entries.{noted_entry}
use Rattle.equivocators.specs.Inner.{entry_of, Distinct}
use Rattle.equivocators.proofs.Entries.{Alike}

-- the words of a record, as record's laws have it
pub words-fit : (r : Record) → r.head < 2 ^ 64 → r.signers < 2 ^ 64 → r.payload.high < 2 ^ 64 → r.payload.low < 2 ^ 64
    → r.note.signers < 2 ^ 64 → r.note.zero < 2 ^ 64 → r.note.payload.high < 2 ^ 64 → r.note.payload.low < 2 ^ 64 → Fits r
words-fit r head signers high low noted zero noted_high noted_low =
    record {
      head-fits = head;
      signers-fits = signers;
      payload-fits = record { high_fits = high; low_fits = low };
      note-fits = record { signers-fits = noted; zero-fits = zero; payload-fits = record { high_fits = noted_high; low_fits = noted_low } };
    }

-- a note's entry
note-alike : (n : Note) → note-words.Fits n → Alike (noted_entry (note.decoded (note.bytes n))) (entry_of n.signers n.payload)
note-alike n f = go (eqb n.signers 0) refl
  where
    go : (b : Bool) → eqb n.signers 0 ≡ b → Alike (noted_entry (note.decoded (note.bytes n))) (entry_of n.signers n.payload)
    go true e =
        let none = eqb-true n.signers 0 e in
        subst (λ (v : protocol.Note). Alike (noted_entry v) (entry_of n.signers n.payload)) (sym (note-words.nothing-words n f none)) (sym none, inl refl)
    go false e =
        subst (λ (v : protocol.Note). Alike (noted_entry v) (entry_of n.signers n.payload)) (sym (note-words.noted-words n f (eqb-false n.signers 0 e))) (refl, inr refl)

-- nobody is noted in a note of zeros
blank-noted : (n : Note) → note-words.Fits n → blank (note.bytes n) ≡ true → n.signers ≡ 0
blank-noted n f z =
    let words = sym (block-laws.blank-words (note-words.block_of n) (note-words.block-fits n f)) ∙ (ap blank (note-words.block-bytes n) ∙ z) in
    eqb-true n.signers 0 ((and-eq-true_iff (eqb n.signers 0) _).0 words).0

-- both halves, against a record on values
abbrev HalvesAlike : Record → protocol.Record → Type 0
HalvesAlike r v =
    Alike (record { signers = signers_of v; payload = payload_of v }) (entry_of r.signers r.payload)
    × Alike (noted_entry (note_of v)) (entry_of r.note.signers r.note.payload)

module _ (r : Record) (f : Fits r) (config : Config) (sender : ℕ) (ok : well_formed config sender (bytes r) ≡ true) where
  pub halves-alike : HalvesAlike r (decoded (bytes r))
  halves-alike = go (well-formed-has-state r f config sender ok)
    where
      go : HasState r → HalvesAlike r (decoded (bytes r))
      go (inl none) =
          let z = sym (well-formed-empty r f config sender none) ∙ ok in
          let noted = ((and-eq-true_iff (blank (block.bytes (held_block r))) _).0 (sym (blank-halves r) ∙ z)).1 in
          subst (HalvesAlike r) (sym (empty-words r f (omega arith)))
          ((sym (blank-signers r f z), inl refl), (sym (blank-noted r.note f.note-fits noted), inl refl))
      go (inr (inl held)) = subst (HalvesAlike r) (sym (held-words r f (omega arith))) ((refl, inr refl), note-alike r.note f.note-fits)
      go (inr (inr delivered)) = subst (HalvesAlike r) (sym (delivered-words r f (omega arith))) ((refl, inr refl), note-alike r.note f.note-fits)

  pub distinct : Distinct r
  distinct = go (note_fine r f config sender) refl
    where
      with-note : (b : Bool) → eqb r.note.signers 0 ≡ b
          → NoteWellFormed config.n sender (payload.bytes r.payload) (note.decoded (note.bytes r.note)) → Distinct r
      with-note true e fine = inl (eqb-true r.note.signers 0 e)
      with-note false e fine =
          inr
          (subst (NoteWellFormed config.n sender (payload.bytes r.payload)) (note-words.noted-words r.note f.note-fits (eqb-false r.note.signers 0 e)) fine).1

      go : (b : Bool) → note_fine r f config sender ≡ b → Distinct r
      go true fine =
          with-note (eqb r.note.signers 0) refl
          (note-laws.decoded-well-formed config sender (payload.bytes r.payload) (note.bytes r.note) (note-words.bytes-length r.note) fine)
      go false fine = absurd (true≢false (sym ok ∙ malformed-note r f config sender fine))
