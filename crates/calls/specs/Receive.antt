-- RULES section 8: receiving a bundle, called taking in the formats. What it does to the slot's record (R8.2 to R8.6, R8.14 to R8.16) is the update of protocol's
-- specs/Update.antt; here are the refusals before it, and what becomes of the two buffers.
-- Assumes nothing.
use Rattle.std.specs.Prelude.{not, cond, List, [], ◌∷◌, ℕ, eqb, length, Result, Ok, Err}
use Rattle.signers.specs.Signers as signers
use Rattle.refusal.specs.Refusal.{outcome_of}
use Rattle.refusal.specs.declared.Refusal.{Refusal}
use Rattle.refusal.specs.Outcome.{Outcome, Reason, ◌if◌, after, checked, ◌and_then◌}
use Rattle.config.specs.declared.Config.{Config}
use Rattle.config.specs.declared.Slot.{Slot}
use Rattle.config.specs.Config.{quorum}
use Rattle.bundle.specs.declared.Header.{Header}
use Rattle.bundle.specs.Bundle.{bundle_size, bundle_of, read, payload_part, slot_of, header_of, slot_in}
use Rattle.protocol.specs.Update.{Record, signers_of, payload_of, Answer, sends, counted_signers, Update, update}
use Rattle.record.specs.Record.{encoding, decoded, well_formed, answer_of}
use Rattle.calls.specs.Records.{record_at, stored, wrong_size}
use Rattle.calls.specs.declared.Receipt.{Receipt}

-- the bundle of a slot's record
unfoldable pub record_bundle : Slot → Record → List ℕ
record_bundle slot r = bundle_of (header_of slot (signers_of r)) (payload_of r)

module _ (config : Config) (bundle records out : List ℕ) where
  -- R8.1: what is tested after reading, which has 1 to 8, and before the update, which has 22 to 24
  unfoldable pub receive_reasons : Header → List Reason
  receive_reasons h =
      (10 if not (eqb (length out) bundle_size))
      ∷ (20 if wrong_size config records)
      ∷ (21 if not (well_formed config h.sender (record_at config (slot_of h) records)))
      ∷ []

  unfoldable pub receive : Outcome Update
  receive =
      read config bundle and_then λ h.
      checked (receive_reasons h) and_then λ _.
      update config.own (quorum config) h.signers (payload_part config bundle) (decoded (record_at config (slot_of h) records))

  unfoldable pub receive_records : List ℕ
  receive_records = after receive (λ result. stored config (slot_in bundle) (encoding result.new_record) records) records

  -- R8.7: with an answer that sends, signed or delivered, the new record's bundle; at kept and noted the outgoing bytes stay
  unfoldable pub receive_out : List ℕ
  receive_out = after receive (λ result. cond (sends result.answer) (record_bundle (slot_in bundle) result.new_record) out) out

-- R8.8: the answer, with how many signers the record then has, or with noted its note
unfoldable pub reported : Update → Answer × ℕ
reported result = (result.answer, signers.size (counted_signers result.answer result.new_record))

-- answer and count of each case, or the number of the refusal (R17.3)
abbrev pub receipt_of : Result Receipt Refusal → Outcome (Answer × ℕ)
receipt_of receipt = outcome_of (λ r. (answer_of r.answer, r.count)) receipt

-- R5.1: the count is 0 with a refusal
abbrev pub receipt_count : Result Receipt Refusal → ℕ
receipt_count (Ok receipt) = receipt.count
receipt_count (Err reason) = 0
