-- What a record notes never counts, of the call: what specs/Notes.antt claims, from the same on values. The refusals before the update are the same on both
-- buffers, since neither the length nor a well-formed record refuses one of them alone. Assumes nothing.
use mathlib.Core.Path.{◌≡◌, refl, sym, ap, ◌∙◌, subst}
use mathlib.Core.Bool.{Bool, true, false, cond, not}
use mathlib.Core.List.{List, [], ◌∷◌}
use Prim.Native.Nat.{ℕ}
use lib.Dec.{eqb}
use lib.ListN.{length}
use Rattle.refusal.specs.Outcome.{Outcome, refused, done, ◌if◌, after, checked, ◌and_then◌}
use Rattle.config.specs.declared.Config.{Config}
use Rattle.config.specs.declared.Slot.{Slot}
use Rattle.config.specs.Config.{quorum, records_size}
use Rattle.bundle.specs.declared.Header.{Header}
use Rattle.bundle.specs.Bundle.{bundle_size, bundle_of, header_of, read, payload_part, slot_of, slot_in}
use Rattle.protocol.specs.Update.{Record, signers_of, payload_of, sends, Update, update}
use Rattle.protocol.specs.Notes.{held_half, SameButNotes, sent_by}
use Rattle.protocol.proofs.Notes as values
use Rattle.record.specs.Record.{well_formed}
use Rattle.calls.specs.Records.{record_at}
use Rattle.calls.specs.Receive.{record_bundle, receive_reasons, receive, receive_out}
use Rattle.calls.specs.Algorithm.{record_of}
use Rattle.calls.specs.Notes.{NotesNeverCount}
use Rattle.calls.proofs.ReceiveFacts.{read-says}

-- the outgoing bytes, by the bundle that is sent
out_by : Slot → List (ℕ × List ℕ) → (out : List ℕ) → List ℕ
out_by slot [] out = out
out_by slot (sent ∷ rest) out = bundle_of (header_of slot sent.0) sent.1

out-sent : (slot : Slot) (o : Outcome Update) (out : List ℕ)
    → after o (λ result. cond (sends result.answer) (record_bundle slot result.new_record) out) out ≡ out_by slot (sent_by o) out
unfolding out_by record_bundle
out-sent slot (refused number) out = refl
out-sent slot (done result) out = go (sends result.answer)
  where
    go : (b : Bool)
        → cond b (record_bundle slot result.new_record) out
        ≡ out_by slot (cond b ((signers_of result.new_record, payload_of result.new_record) ∷ []) []) out
    go true = refl
    go false = refl

-- what comes before the update where the record is well-formed: 10 and 20
abbrev before : (config : Config) (out : List ℕ) (size : ℕ) → Outcome Unit
before config out size = checked ((10 if not (eqb (length out) bundle_size)) ∷ (20 if not (eqb size (records_size config))) ∷ (21 if false) ∷ [])

-- and then the update
abbrev updated : (config : Config) (bundle : List ℕ) (h : Header) (r : Record) → Outcome Update
updated config bundle h r = update config.own (quorum config) h.signers (payload_part config bundle) r

received : (config : Config) (bundle records out : List ℕ) (h : Header) (size : ℕ) → read config bundle ≡ done h → length records ≡ size
    → well_formed config h.sender (record_at config (slot_of h) records) ≡ true
    → (before config out size and_then λ _. updated config bundle h (record_of config (slot_of h) records)) ≡ receive config bundle records out
unfolding receive receive_reasons
received config bundle records out h size e l fine = rw (e, fine, ← l)

either : (config : Config) (bundle : List ℕ) (h : Header) (r other : Record) → held_half r ≡ held_half other → (b : Outcome Unit)
    → SameButNotes r other (b and_then λ _. updated config bundle h r) (b and_then λ _. updated config bundle h other)
either config bundle h r other same (refused number) = record { answers = refl; records = same; sendings = refl }
either config bundle h r other same (done _) = values.notes-never-count config.own (quorum config) h.signers (payload_part config bundle) r other same

-- alike at the records of a slot
abbrev Alike : (config : Config) (bundle records others out : List ℕ) (slot : Slot) → Type 0
Alike config bundle records others out slot =
    well_formed config slot.sender (record_at config slot records) ≡ true
    → well_formed config slot.sender (record_at config slot others) ≡ true
    → held_half (record_of config slot records) ≡ held_half (record_of config slot others)
    → SameButNotes (record_of config slot records) (record_of config slot others) (receive config bundle records out) (receive config bundle others out)

accepted : (config : Config) (bundle records others out : List ℕ) (h : Header) → read config bundle ≡ done h → length records ≡ length others
    → Alike config bundle records others out (slot_of h)
accepted config bundle records others out h e l fine others-fine same =
    rw (received config bundle records out h (length others) e l fine, received config bundle others out h (length others) e refl others-fine) at
    (either config bundle h (record_of config (slot_of h) records) (record_of config (slot_of h) others) same (before config out (length others)))

-- a bundle that reading refuses is refused before a record is looked at
unread : (config : Config) (bundle records out : List ℕ) (number : ℕ) → read config bundle ≡ refused number
    → receive config bundle records out ≡ refused number
unfolding receive
unread config bundle records out number e = rw e

alike : (config : Config) (bundle records others out : List ℕ) → length records ≡ length others → Alike config bundle records others out (slot_in bundle)
alike config bundle records others out l = go (read config bundle) refl
  where
    go : (o : Outcome Header) → read config bundle ≡ o → Alike config bundle records others out (slot_in bundle)
    go (done h) e fine others-fine same =
        subst (Alike config bundle records others out) (sym (read-says config bundle h e).slot-named) (accepted config bundle records others out h e l)
        fine others-fine same
    go (refused number) e fine others-fine same =
        rw (unread config bundle records out number e, unread config bundle others out number e)
        (record { answers = refl; records = same; sendings = refl })

pub notes-never-count : NotesNeverCount
unfolding receive_out
notes-never-count config bundle records others out l fine others-fine same =
    let same-but-notes = alike config bundle records others out l fine others-fine same in (
      same-but-notes,
      out-sent (slot_in bundle) (receive config bundle records out) out
          ∙ ap (λ (x : List (ℕ × List ℕ)). out_by (slot_in bundle) x out) same-but-notes.sendings
          ∙ sym (out-sent (slot_in bundle) (receive config bundle others out) out),
    )
