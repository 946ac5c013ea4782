-- A record is known by its bytes, and what was received by its answer and bytes, so that the contracts of this crate leave one result.
-- That a word is below 2 to the power 64 is what its type says.
-- Assumes nothing.
use mathlib.Core.Path.{◌≡◌, refl, sym, ap, ap₂, ◌∙◌}
use mathlib.Core.List.{List}
use Prim.Native.Nat.{ℕ}
use Rattle.octets.specs.Octets.{number, bytes_of, part}
use Rattle.octets.proofs.Numbers.{number-bytes_of}
use Rattle.payload.proofs.Laws as payload-laws
use Rattle.note.proofs.Unique as note-laws
use Rattle.std.specs.Prelude.{Result, IfOk}
use Rattle.refusal.specs.declared.Refusal.{Refusal}
use Rattle.refusal.proofs.Unique.{outcome-one_if}
use Rattle.protocol.specs.Update as protocol
use Rattle.record.specs.declared.Record.{Record}
use Rattle.record.specs.declared.Received.{Received}
use Rattle.record.specs.declared.Answer.{Answer}
use Rattle.record.specs.declared.Answer.TheVariants.{Kept, Signed, Delivered, Noted}
use Rattle.record.specs.Record.{signers_field, payload_field, note_field, bytes, answer_of, received_of}
use Rattle.record.proofs.Words.{Fits, signers-words, payload-words, note-words}

record_from : List ℕ → Record
record_from xs =
    record {
      head = number (part 0 8 xs);
      signers = signers_field xs;
      payload = payload-laws.payload_from (payload_field xs);
      note = note-laws.note_from (note_field xs);
    }

-- each word is read back
module _ (r : Record) (f : Fits r) where
  head-back : number (part 0 8 (bytes r)) ≡ r.head
  unfolding bytes bytes_of
  head-back = number-bytes_of 8 r.head f.head-fits

  record-back : record_from (bytes r) ≡ r
  unfolding record_from
  record-back =
      rw (head-back, signers-words r f, payload-words r, payload-laws.payload-back r.payload f.payload-fits, note-words r, note-laws.note-back r.note f.note-fits)

pub record-one : (a b : Record) → Fits a → Fits b → bytes a ≡ bytes b → a ≡ b
record-one a b u v e = sym (record-back a u) ∙ ap record_from e ∙ record-back b v

-- an answer is known by its name in the rules; nothing that is received is announced, and any case will do there
unfoldable pub answer_from : protocol.Answer → Answer
answer_from protocol.announced = Kept
answer_from protocol.kept = Kept
answer_from protocol.signed = Signed
answer_from protocol.delivered = Delivered
answer_from protocol.noted = Noted

pub answer-back : (a : Answer) → answer_from (answer_of a) ≡ a
unfolding answer_from
answer-back Kept = refl
answer-back Signed = refl
answer-back Delivered = refl
answer-back Noted = refl

pub answer-one : (a b : Answer) → answer_of a ≡ answer_of b → a ≡ b
answer-one a b e = sym (answer-back a) ∙ ap answer_from e ∙ answer-back b

-- the record of what was received, if it has one, is made of words
abbrev pub ReceivedFits : Result Received Refusal → Type 0
ReceivedFits received = IfOk received (λ r. Fits r.record)

-- what was received is known by its answer and its record's bytes
told-one : (x y : Received) → Fits x.record → Fits y.record
    → ◌≡◌ {A = protocol.Answer × List ℕ} (answer_of x.answer, bytes x.record) (answer_of y.answer, bytes y.record) → x ≡ y
told-one x y u v e =
    let answers : answer_of x.answer ≡ answer_of y.answer = ap (λ (p : protocol.Answer × List ℕ). p.0) e in
    let records : bytes x.record ≡ bytes y.record = ap (λ (p : protocol.Answer × List ℕ). p.1) e in
    ap₂ {C = Received} (λ a r. record { answer = a; «record» = r })
    (answer-one x.answer y.answer answers)
    (record-one x.record y.record u v records)

pub received-one : (a b : Result Received Refusal) → ReceivedFits a → ReceivedFits b → received_of a ≡ received_of b → a ≡ b
received-one a b u v e = outcome-one_if (λ r. (answer_of r.answer, bytes r.record)) (λ r. Fits r.record) told-one a b u v e
