-- What becomes of a decision, in the answer and in the two buffers, is what receiving says. From the laws of well-formed records.
-- Assumes nothing.
use mathlib.Core.Path.{◌≡◌, refl, sym, ap, ap₂, ◌∙◌}
use mathlib.Core.Bool.{true, false, cond}
use mathlib.Core.List.{List}
use Prim.Native.Nat.{ℕ}
use lib.ListN.{length}
use Rattle.signers.specs.Signers as signers
use Rattle.octets.specs.Octets.{Bytes}
use Rattle.payload.specs.Payload as payload
use Rattle.refusal.specs.Outcome.{Outcome, refused, done, after, checked, ◌and_then◌}
use Rattle.refusal.proofs.Reasons.{refused-not-done}
use Rattle.config.specs.declared.Config.{Config}
use Rattle.config.specs.Config.{quorum, place, records_size}
use Rattle.config.proofs.Laws.{good-says}
use Rattle.bundle.specs.declared.Header.{Header}
use Rattle.bundle.specs.Bundle.{read, payload_part, slot_in, slot_of}
use Rattle.bundle.specs.Inner.{encoded_like}
use Rattle.bundle.proofs.RoundTrip.{like-accepted}
use Rattle.protocol.specs.Update.{Answer, announced, kept, signed, delivered, noted, signers_of, payload_of, note_of, is_empty, noted_signers, sends, counted_signers, Update, update}
use Rattle.protocol.proofs.WellFormed.{WellFormed, update-well-formed}
use Rattle.protocol.proofs.UpdateCases.{update-filled}
use Rattle.note.specs.Note as note
use Rattle.note.proofs.Words as note-words-laws
use Rattle.note.proofs.Encoding as note-laws
use Rattle.record.specs.declared.Record as held
use Rattle.record.specs.Record.{encoding, signers_field, payload_field, note_field, bytes, decoded, well_formed, encoded_update}
use Rattle.record.proofs.Words.{Fits, signers-words, payload-words, note-words}
use Rattle.record.proofs.Encoding.{decoded-well-formed, encoding-fields}
use Rattle.calls.specs.Records.{record_at, stored}
use Rattle.calls.specs.Receive.{record_bundle, receive_reasons, receive, receive_records, receive_out, reported}
use Rattle.calls.specs.Inner.{counted_field, settled_receipt, settled_records, settled_out}
use Rattle.calls.proofs.Records.{record_at-length}
use Rattle.calls.proofs.ReceiveFacts.{read-says, receive-done}

module _ (config : Config) (bundle records out : List ℕ) (h : Header) (e : read config bundle ≡ done h) (l : length records ≡ records_size config) where
  -- the record of an update is well-formed, and not empty
  pub result-well-formed : well_formed config h.sender (record_at config (slot_of h) records) ≡ true
      → receive config bundle records out
      ≡ update config.own (quorum config) h.signers (payload_part config bundle) (decoded (record_at config (slot_of h) records))
      → (result : Update) → receive config bundle records out ≡ done result
      → (is_empty result.new_record ≡ false) × WellFormed config.n h.sender (quorum config) config.own result.new_record
  result-well-formed formed taken result o =
      let ok = read-says config bundle h e in
      let g = good-says config ok.configured in
      let r = decoded (record_at config (slot_of h) records) in
      let long = record_at-length config ok.configured records l (slot_of h) ok.range in (
        update-filled config.own (quorum config) h.signers (payload_part config bundle) r result (sym taken ∙ o),
        update-well-formed config.n h.sender (quorum config) config.own h.signers (payload_part config bundle) g.known g.most ok.bundled r result
            (decoded-well-formed config h.sender (record_at config (slot_of h) records) long formed) (sym taken ∙ o),
      )

module _ (config : Config) (bundle records out : List ℕ) where
  -- a bundle that is received was read
  receive-read : (result : Update) → receive config bundle records out ≡ done result → (h : Header) × (read config bundle ≡ done h)
  unfolding receive
  receive-read result o = go (read config bundle) refl o
    where
      go : (b : Outcome Header) → read config bundle ≡ b
          → (b and_then λ h. checked (receive_reasons config bundle records out h) and_then λ _.
          update config.own (quorum config) h.signers (payload_part config bundle) (decoded (record_at config (slot_of h) records))) ≡ done result
          → (h : Header) × (read config bundle ≡ done h)
      go (refused number) e f = absurd (refused-not-done number result f)
      go (done h) e f = (h, e)

  -- and its record is read back from its bytes
  result-fields : (result : Update) → receive config bundle records out ≡ done result
      → (signers_field (encoding result.new_record) ≡ signers_of result.new_record)
      × (payload_field (encoding result.new_record) ≡ payload_of result.new_record)
      × (note.decoded (note_field (encoding result.new_record)) ≡ note_of result.new_record)
  result-fields result o =
      let (h, e) = receive-read result o in
      let (_, size, taken, formed) = receive-done config bundle records out h e result o in
      let (some, fine) = result-well-formed config bundle records out h e size formed (o ∙ sym taken) result o in
      encoding-fields config.n h.sender (quorum config) config.own (good-says config (read-says config bundle h e).configured).most result.new_record some fine

  -- and so is the word of signers that is counted
  result-counted : (result : Update) → receive config bundle records out ≡ done result
      → counted_field result.answer (encoding result.new_record) ≡ counted_signers result.answer result.new_record
  result-counted result o = go result.answer (result-fields result o)
    where
      go : (answer : Answer)
          → (signers_field (encoding result.new_record) ≡ signers_of result.new_record)
          × (payload_field (encoding result.new_record) ≡ payload_of result.new_record)
          × (note.decoded (note_field (encoding result.new_record)) ≡ note_of result.new_record)
          → counted_field answer (encoding result.new_record) ≡ counted_signers answer result.new_record
      go announced (s, p, n) = s
      go kept (s, p, n) = s
      go signed (s, p, n) = s
      go delivered (s, p, n) = s
      go noted (s, p, n) = sym (note-laws.decoded-signers (note_field (encoding result.new_record))) ∙ ap noted_signers n

  -- the answer and the number of signers,
  pub settled-receipt : settled_receipt (encoded_update (receive config bundle records out)) ≡ (receive config bundle records out and_then λ result. done (reported result))
  unfolding settled_receipt encoded_update reported
  settled-receipt = go (receive config bundle records out) refl
    where
      go : (o : Outcome Update) → receive config bundle records out ≡ o → settled_receipt (encoded_update o) ≡ (o and_then λ result. done (reported result))
      go (refused number) q = refl
      go (done result) q = ap (λ (k : ℕ). done (result.answer, signers.size k)) (result-counted result q)

  -- the records,
  pub settled-records : settled_records (place config (slot_in bundle)) (encoded_update (receive config bundle records out)) records ≡ receive_records config bundle records out
  unfolding settled_records encoded_update receive_records stored
  settled-records = go (receive config bundle records out)
    where
      go : (o : Outcome Update)
          → settled_records (place config (slot_in bundle)) (encoded_update o) records
          ≡ after o (λ result. stored config (slot_in bundle) (encoding result.new_record) records) records
      go (refused number) = refl
      go (done result) = refl

  -- and the outgoing bytes: the bundle that came in, with the record's signers, is the record's
  pub settled-out : Bytes bundle → settled_out bundle (encoded_update (receive config bundle records out)) out ≡ receive_out config bundle records out
  unfolding settled_out encoded_update receive_out record_bundle
  settled-out bytes = go (receive config bundle records out) refl
    where
      go : (o : Outcome Update) → receive config bundle records out ≡ o
          → settled_out bundle (encoded_update o) out ≡ after o (λ result. cond (sends result.answer) (record_bundle (slot_in bundle) result.new_record) out) out
      go (refused number) q = refl
      go (done result) q =
          let (s, p, n) = result-fields result q in
          let (h, e) = receive-read result q in
          let room = (receive-done config bundle records out h e result q).0 in
          ap (λ (ys : List ℕ). cond (sends result.answer) ys out)
          (ap₂ (λ (x : ℕ) (ys : List ℕ). encoded_like bundle x ys out) s p
          ∙ like-accepted config bundle out (payload_of result.new_record) h (signers_of result.new_record) bytes e room)

  -- where receiving refuses, the decision does, and the other way round
  pub refused-decided : (number : ℕ) → receive config bundle records out ≡ refused number → refused number ≡ encoded_update (receive config bundle records out)
  unfolding encoded_update
  refused-decided number e = rw e

  pub decided-refused : (number : ℕ) → refused number ≡ encoded_update (receive config bundle records out) → receive config bundle records out ≡ refused number
  unfolding encoded_update
  decided-refused number e = go (receive config bundle records out) refl e
    where
      go : (o : Outcome Update) → receive config bundle records out ≡ o → refused number ≡ encoded_update o → receive config bundle records out ≡ refused number
      go (refused other) q f = let same : other ≡ number = cc in q ∙ ap refused same
      go (done result) q f = absurd (refused-not-done number (result.answer, encoding result.new_record) f)

-- the word that is counted with an answer
abbrev pub counted_word : Answer → held.Record → ℕ
counted_word announced r = r.signers
counted_word kept r = r.signers
counted_word signed r = r.signers
counted_word delivered r = r.signers
counted_word noted r = r.note.signers

counted-word : (answer : Answer) (r : held.Record) → Fits r → counted_word answer r ≡ counted_field answer (bytes r)
counted-word announced r fits = sym (signers-words r fits)
counted-word kept r fits = sym (signers-words r fits)
counted-word signed r fits = sym (signers-words r fits)
counted-word delivered r fits = sym (signers-words r fits)
counted-word noted r fits = sym (ap note.signers_field (note-words r) ∙ note-words-laws.signers-words r.note fits.note-fits)

-- what is told of a record that came of a bundle, and written if the answer sends, goes by the fields in the record's bytes
pub settled-record : (bundle out written : List ℕ) (r : held.Record) (answer : Answer) (count : ℕ) → Fits r → count ≡ signers.size (counted_word answer r)
    → written ≡ cond (sends answer) (encoded_like bundle r.signers (payload.bytes r.payload) out) out
    → (done (answer, count) ≡ settled_receipt (done (answer, bytes r))) × (written ≡ settled_out bundle (done (answer, bytes r)) out)
unfolding settled_receipt settled_out
settled-record bundle out written r answer count fits counted e =
    let signed_by : r.signers ≡ signers_field (bytes r) = sym (signers-words r fits) in
    let carried : payload.bytes r.payload ≡ payload_field (bytes r) = sym (payload-words r) in (
      ap (λ (k : ℕ). done (answer, k)) (counted ∙ ap signers.size (counted-word answer r fits)),
      e ∙ ap₂ (λ (k : ℕ) (ys : List ℕ). cond (sends answer) (encoded_like bundle k ys out) out) signed_by carried,
    )
