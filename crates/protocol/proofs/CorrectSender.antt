-- In the slot of a correct sender every record of a correct node that is not empty has the payload that the sender signed, and that node has signed it
-- too.
-- Assumes nothing.
use mathlib.Core.Path.{◌≡◌, refl, ◌∙◌}
use mathlib.Core.Bool.{true, false, true≢false}
use Prim.Native.Nat.{ℕ, ◌≤◌}
use native.Mathlib.Omega.{arith}
use Rattle.octets.proofs.Same.{same_self}
use Rattle.signers.specs.Sets.{NodeSet}
use Rattle.signers.proofs.Members.{insert-own}
use Rattle.refusal.specs.Outcome.{Outcome, after}
use Rattle.protocol.specs.Update.{Record, Empty, Held, Delivered, Update, is_empty, payload_of}
use Rattle.protocol.specs.Trace.{Trace, ◌then◌calls◌}
use Rattle.protocol.specs.OneSlot.{Act, record_after, signs, current_record, ever, correct, Lawful}
use Rattle.protocol.proofs.TraceLaws.{ever-grows}
use Rattle.protocol.proofs.CorrectNodes.{correct-below}
use Rattle.protocol.proofs.UpdateCases.{UpdateCase, refusing, broadcasting, signing, signing-and-delivering, joining, completing, replacing, noting}
use Rattle.protocol.proofs.TraceInduction.{NodeView, trace-induction}
use Rattle.protocol.proofs.GenuineSignatures.{RecordGenuine, record-genuine}
use Rattle.protocol.proofs.SignedSoFar.{signs-one-payload}

-- the node has signed the payload of its record
abbrev pub RecordSigned : (q : ℕ) (trace : Trace Act) (u : ℕ) (r : Record) → Type 0
RecordSigned q trace u r = is_empty r ≡ false → ever q (signs q (payload_of r)) trace u ≡ true

module _ (n q sender : ℕ) (faulty : NodeSet) (fits : n ≤ 64) (good : correct n faulty sender ≡ true) where
  -- the sender has signed the payload of every record
  pub sender_signed : (trace : Trace Act) → Lawful n q sender faulty trace → (u : ℕ) → correct n faulty u ≡ true
      → is_empty (current_record q trace u) ≡ false → ever q (signs q (payload_of (current_record q trace u))) trace sender ≡ true
  sender_signed trace lawful u c = go (current_record q trace u) (record-genuine n q sender faulty fits trace u lawful c)
    where
      go : (r : Record) → RecordGenuine n q sender faulty trace u r → is_empty r ≡ false → ever q (signs q (payload_of r)) trace sender ≡ true
      go Empty k e = absurd (true≢false e)
      go (Held signers payload note) k e = k.genuine.signed sender good k.has-sender
      go (Delivered signers payload note) k e = k.genuine.signed sender good k.has-sender

  -- Every update keeps it. No bundle replaces the payload of a held record, since the sender has signed only one.
  record-signed-step : (earlier : Trace Act) (u caller : ℕ) (act : Act) (r : Record) (o : Outcome Update)
      → UpdateCase q u caller act r o → NodeView q earlier u caller act r o
      → Lawful n q sender faulty (earlier then caller calls act) → correct n faulty u ≡ true
      → RecordSigned q earlier u r → RecordSigned q (earlier then caller calls act) u (after o (λ result. result.new_record) r)
  record-signed-step earlier u caller act r o (refusing why) view l c before e =
      ever-grows (λ node. Empty) (record_after q) (signs q (payload_of r)) earlier u caller act (before e)
  record-signed-step earlier u caller act r o (broadcasting {payload = payload} own) view l c before e =
      let below = correct-below n faulty u c in
      view.signed payload ∙ rw (same_self payload, insert-own 0 u (omega arith))
  record-signed-step earlier u caller act r o (signing {signers = signers} {payload = payload} absent few) view l c before e =
      let below = correct-below n faulty u c in
      view.signed payload ∙ rw (same_self payload, insert-own signers u (omega arith))
  record-signed-step earlier u caller act r o (signing-and-delivering {signers = signers} {payload = payload} absent enough) view l c before e =
      let below = correct-below n faulty u c in
      view.signed payload ∙ rw (same_self payload, insert-own signers u (omega arith))
  record-signed-step earlier u caller act r o (joining {payload = payload} few) view l c before e =
      ever-grows (λ node. Empty) (record_after q) (signs q payload) earlier u caller act (before e)
  record-signed-step earlier u caller act r o (completing {payload = payload} enough) view l c before e =
      ever-grows (λ node. Empty) (record_after q) (signs q payload) earlier u caller act (before refl)
  record-signed-step earlier u caller act r o (replacing {signers = signers} {payload = payload} {held = held} other absent enough) view l c before e =
      let (then-lawful, caller-correct, (inside, has-sender, signed)) = l in
      let k = rw view.found at (record-genuine n q sender faulty fits earlier u then-lawful c) in
      absurd (other (signs-one-payload q earlier sender (omega (arith, correct-below n faulty sender good)) held payload
      (k.genuine.signed sender good k.has-sender) (signed sender good has-sender)))
  record-signed-step earlier u caller act r o (noting {held = held} other few known) view l c before e =
      ever-grows (λ node. Empty) (record_after q) (signs q held) earlier u caller act (before e)

  -- so it holds at every correct node after every lawful trace
  pub record-signed : (trace : Trace Act) (u : ℕ) → Lawful n q sender faulty trace → correct n faulty u ≡ true → RecordSigned q trace u (current_record q trace u)
  record-signed =
      trace-induction q (λ trace u r. Lawful n q sender faulty trace → correct n faulty u ≡ true → RecordSigned q trace u r)
      (λ u l c e. absurd (true≢false e))
      (λ earlier u caller act r o kind view below l c. record-signed-step earlier u caller act r o kind view l c (below l.0 c))
