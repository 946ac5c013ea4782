-- `decide` meets its contract: each refusal follows from the tests passed before it, and the rest from the update. Assumes nothing.
use mathlib.Core.Path.{◌≡◌, sym, ap, ap₂, ◌∙◌, subst}
use mathlib.Core.List.{List}
use Prim.Native.Nat.{ℕ, ◌+◌, ◌≤◌}
use lib.ListN.{length}
use Rattle.std.proofs.lemmas.Result.{IfOk-from_err}
use Rattle.payload.specs.Payload as payload
use Rattle.refusal.specs.Outcome.{done}
use Rattle.refusal.proofs.Passed.{passed-on}
use Rattle.config.specs.declared.Config.{Config}
use Rattle.config.specs.declared.Slot.{Slot}
use Rattle.config.specs.Config.{slot_of_day, slot_place, place, record_size, records_size}
use Rattle.config.proofs.Laws.{place-slot}
use Rattle.bundle.specs.declared.Header.{Header}
use Rattle.bundle.specs.Bundle.{read, reading_of, payload_part, slot_of}
use Rattle.bundle.proofs.Accepted.{accepted-readable}
use Rattle.bundle.proofs.Fields.{loaded-payload}
use Rattle.record.specs.Record.{bytes, received, encoded_update}
use Rattle.calls.specs.Records.{record_at}
use Rattle.calls.specs.Receive.{receive}
use Rattle.calls.proofs.RecordBounds.{record-at}
use Rattle.calls.proofs.Records.{place-fits}
use Rattle.calls.proofs.ReceiveFacts.{Read, read-says}
use Rattle.calls.proofs.Refusals.{receive-unread, receive-out, receive-size, receive-recorded}
use Rattle.calls.proofs.Settling.{refused-decided}
use Rattle.calls.proofs.decide.Goals as goal
use Rattle.calls.proofs.decide.Goals.{After-get-record, After-place-start, After-receive, Else-records-records_size, In-Ok}

abbrev accepting : Else-records-records_size → In-Ok
accepting c = (goal.at.Else-records-records_size c).In-Ok

abbrev sized : After-place-start → Else-records-records_size
sized c = (goal.at.After-place-start c).Else-records-records_size

abbrev placed : After-get-record → After-place-start
placed c = (goal.at.After-get-record c).After-place-start

abbrev loaded : After-receive → After-get-record
loaded c = (goal.at.After-receive c).After-get-record

abbrev header : In-Ok → Header
header c = c.in-Ok.header

-- reading has accepted the bundle
accepted : (c : In-Ok) → read c.args.config c.args.bundle.now ≡ done (header c)
accepted c = sym c.in-Ok.ensures

-- ---- what is known after the lengths
module _ (c : Else-records-records_size) where
  abbrev config : Config
  config = c.args.config

  abbrev bundle : List ℕ
  bundle = c.args.bundle.now

  abbrev records : List ℕ
  records = c.args.records.now

  abbrev out : List ℕ
  out = c.args.outgoing.now

  abbrev fields : Header
  fields = header (accepting c)

  is_read : Read config bundle fields
  is_read = read-says _ _ _ (accepted (accepting c))

  long-known : length records ≡ records_size config
  long-known = c.if-records-records_size.false ∙ c.records_size.ensures

  -- receiving is what the slot's record makes of the bundle
  recorded : receive config bundle records out
      ≡ received config fields.sender fields.signers (payload_part config bundle) (record_at config (slot_of fields) records)
  recorded = receive-recorded _ _ _ _ _ (accepted (accepting c)) c.if-outgoing-ne-SIZE.false long-known

-- ---- and at the update
slot-known : (c : After-place-start) → c.slot_of_day-slot.result ≡ slot_of (fields (sized c))
unfolding slot_of_day
slot-known c =
    c.slot_of_day-slot.ensures
    ∙ ap {B = Slot} (λ (d : ℕ). record { day = d; sender = (fields (sized c)).sender; seq = (fields (sized c)).seq }) (sym (is_read (sized c)).today)

place-known : (c : After-place-start) → c.place-start.result ≡ place (config (sized c)) (slot_of (fields (sized c)))
place-known c = c.place-start.ensures ∙ ap slot_place (slot-known c) ∙ sym (place-slot _ _ (is_read (sized c)).configured (is_read (sized c)).range)

place-known-fits : (c : After-place-start) → c.place-start.result + record_size ≤ length (records (sized c))
place-known-fits c =
    let ok = c in
    subst (λ (k : ℕ). k + record_size ≤ length (records (goal.at.After-place-start c).Else-records-records_size)) (sym (place-known c)) (place-fits _ (is_read (goal.at.After-place-start c).Else-records-records_size).configured (records (goal.at.After-place-start c).Else-records-records_size) (long-known (goal.at.After-place-start c).Else-records-records_size) _ (is_read (goal.at.After-place-start c).Else-records-records_size).range)

module _ (c : After-receive) where
  abbrev known : Else-records-records_size
  known = sized (placed (loaded c))

  -- the record that was loaded is the slot's
  record-known : bytes c.get-record.result ≡ record_at (config known) (slot_of (fields known)) (records known)
  record-known = c.get-record.ensures ∙ record-at _ _ _ _ (place-known (placed (loaded c)))

  -- the value is the payload's
  payload-known : payload.bytes c.load_payload-payload.result ≡ payload_part (config known) (bundle known)
  payload-known =
      c.load_payload-payload.ensures
      ∙ loaded-payload (bundle known) (accepted-readable _ _ _ (accepted (accepting known))).0.long
      ∙ sym (is_read known).payload

  -- what the record makes of the bundle is what receiving does
  stepped : encoded_update (received (config known) (fields known).sender (fields known).signers (payload.bytes c.load_payload-payload.result) (bytes c.get-record.result))
      ≡ encoded_update (receive (config known) (bundle known) (records known) (out known))
  stepped =
      ap₂ (λ p xs. encoded_update (received (config known) (fields known).sender (fields known).signers p xs)) payload-known record-known
      ∙ ap encoded_update (sym (recorded known))

-- what reading refuses, or the record does, is refused
pub returns-in_default : goal.returns-in_default
returns-in_default c = record {
  result_value = refused-decided _ _ _ _ _ (receive-unread _ _ _ _ _ (sym c.read-reading.ensures ∙ ap reading_of c.unwrap_err.ensures));
  placed = tt;
}

pub returns-in_err-received : goal.returns-in_err-received
returns-in_err-received c = record {
  result_value = passed-on _ _ _ c.from_residual.ensures.1 ∙ c.in_err-received.ensures ∙ stepped (goal.at.returns-in_err-received c).After-receive;
  placed = IfOk-from_err _ _ c.from_residual.ensures.0;
}

pub returns-then-outgoing-ne-SIZE : goal.returns-then-outgoing-ne-SIZE
returns-then-outgoing-ne-SIZE c = record {
  result_value = refused-decided _ _ _ _ _ (receive-out _ _ _ _ _ (accepted (goal.at.returns-then-outgoing-ne-SIZE c).In-Ok) c.if-outgoing-ne-SIZE.true);
  placed = tt;
}

pub returns-then-records-records_size : goal.returns-then-records-records_size
returns-then-records-records_size c =
    let roomy = c in
    record {
      result_value = refused-decided _ _ _ _ _ (receive-size _ _ _ _ _ (accepted (goal.at.returns-then-records-records_size c).In-Ok) roomy.if-outgoing-ne-SIZE.false (λ q. c.if-records-records_size.true (q ∙ sym c.records_size.ensures)));
      placed = tt;
    }

pub get-record-requires : goal.get-record-requires
get-record-requires c = place-known-fits c

pub returns : goal.returns
returns c =
    record {
      result_value = c.in_ok-received.ensures ∙ stepped (goal.at.returns c).After-receive;
      placed = (place-known (goal.at.returns c).After-place-start ∙ ap (place (config (sized (goal.at.returns c).After-place-start))) (sym (is_read (sized (goal.at.returns c).After-place-start)).slot-named), place-known-fits (goal.at.returns c).After-place-start);
    }
