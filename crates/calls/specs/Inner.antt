-- What the private functions of this crate promise each other: what a bundle comes to, and what becomes of that; given by its answer and the bytes that the
-- record then has. No public contract rests on these; a reader may pass them over.
-- Assumes nothing.
use Rattle.std.specs.Prelude.{◌≡◌, cond, List, ℕ, ◌+◌, ◌≤◌, length, Result, IfOk}
use Rattle.signers.specs.Signers as signers
use Rattle.refusal.specs.Refusal.{outcome_of}
use Rattle.refusal.specs.declared.Refusal.{Refusal}
use Rattle.refusal.specs.Outcome.{Outcome, done, after, ◌and_then◌}
use Rattle.config.specs.declared.Config.{Config}
use Rattle.config.specs.declared.Slot.{Slot}
use Rattle.config.specs.Config.{record_size, place}
use Rattle.bundle.specs.Bundle.{bundle_of, header_of, slot_in}
use Rattle.bundle.specs.Inner.{encoded_like}
use Rattle.protocol.specs.Update.{Answer, announced, kept, signed, delivered, noted, sends}
use Rattle.note.specs.Note as note
use Rattle.record.specs.Record.{signers_field, payload_field, note_field, bytes, answer_of}
use Rattle.record.specs.declared.Received.{Received}
use Rattle.calls.specs.Records.{replaced}

-- the bundle of a record, given by its bytes
unfoldable pub sent : Slot → (bytes : List ℕ) → List ℕ
sent slot bytes = bundle_of (header_of slot (signers_field bytes)) (payload_field bytes)

-- what was decided: the number and values of each case (R17.3)
abbrev pub decision_of : Result (ℕ × Received) Refusal → Outcome (Answer × List ℕ)
decision_of decision = outcome_of (λ made. (answer_of made.1.answer, bytes made.1.record)) decision

-- where a decision was made, it starts at the place of the bundle's slot, and a record fits there
abbrev pub Placed : Config → (bundle records : List ℕ) → Result (ℕ × Received) Refusal → Type 0
Placed config bundle records decision =
    IfOk decision (λ made. (made.0 ≡ place config (slot_in bundle)) × (made.0 + record_size ≤ length records))

-- the signers that are counted with an answer, by the bytes of the record
abbrev pub counted_field : Answer → (bytes : List ℕ) → ℕ
counted_field announced bytes = signers_field bytes
counted_field kept bytes = signers_field bytes
counted_field signed bytes = signers_field bytes
counted_field delivered bytes = signers_field bytes
counted_field noted bytes = note.signers_field (note_field bytes)

-- what becomes of it: the answer with its count, the records, and the outgoing bytes
unfoldable pub settled_receipt : Outcome (Answer × List ℕ) → Outcome (Answer × ℕ)
settled_receipt received = received and_then (λ result. done (result.0, signers.size (counted_field result.0 result.1)))

unfoldable pub settled_records : ℕ → Outcome (Answer × List ℕ) → List ℕ → List ℕ
settled_records start received records = after received (λ result. replaced start result.1 records) records

unfoldable pub settled_out : (bundle : List ℕ) → Outcome (Answer × List ℕ) → (out : List ℕ) → List ℕ
settled_out bundle received out = after received (λ result. cond (sends result.0) (encoded_like bundle (signers_field result.1) (payload_field result.1) out) out) out
