-- What a call changes and what its answer depends on: the laws of specs/Locality.antt. Each outcome is written as a function of the lengths and of
-- one record.
-- Assumes nothing.
use mathlib.Core.Path.{◌≡◌, refl, sym, ap, ◌∙◌}
use mathlib.Core.Bool.{true, not}
use mathlib.Core.List.{List, [], ◌∷◌}
use Prim.Native.Nat.{ℕ, ◌+◌, zero-le}
use lib.Dec.{eqb, lit≤}
use lib.ListN.{length, get_or, replicate}
use Rattle.octets.specs.Octets.{part}
use Rattle.octets.proofs.Numbers.{part-part}
use Rattle.refusal.specs.Outcome.{Outcome, refused, done, Reason, ◌if◌, unless, after, checked, plain, ◌and_then◌}
use Rattle.refusal.proofs.Reasons.{refused-not-done, after_same}
use Rattle.config.specs.declared.Config.{Config}
use Rattle.config.specs.Config.{good, quorum, place, slots, record_size, records_size, in_range}
use Rattle.config.proofs.Laws.{good-says}
use Rattle.bundle.specs.declared.Header.{Header}
use Rattle.bundle.specs.Bundle.{read, payload_part, bundle_size, slot_of, slot_in}
use Rattle.protocol.specs.Update.{Update, announced_by, update}
use Rattle.protocol.proofs.WellFormed.{announced-well-formed}
use Rattle.record.specs.Record.{encoding, decoded, well_formed, payload_at}
use Rattle.record.proofs.Encoding.{encoding-length}
use Rattle.payload.specs.Payload.{payload_size}
use Rattle.bundle.proofs.Example.{payload}
use Rattle.config.specs.declared.Slot.{Slot}
use Rattle.calls.specs.Records.{record_at, stored, own_slot}
use Rattle.calls.specs.Open.{open_reasons, opened}
use Rattle.calls.specs.Broadcast.{broadcast_reasons, broadcast, broadcast_records, broadcast_out}
use Rattle.calls.specs.Receive.{receive_reasons, receive, receive_records, receive_out}
use Rattle.calls.specs.Showing.{delivered_reasons, delivered, delivered_part}
use Rattle.calls.specs.Locality.{OnlyRecord, BroadcastChanges, ReceiveChanges, OpenDepends, ReceiveDepends, BroadcastDepends, BroadcastOwn, DeliveredDepends}
use Rattle.calls.proofs.Records.{stored-length, stored-outside}
use Rattle.calls.proofs.Refusals.{broadcast-effect, receive-left, receive-no-effect, receive-unread}
use Rattle.calls.proofs.LowestFree.{broadcast-done, search-agrees, search-own}
use Rattle.calls.proofs.ReceiveFacts.{read-says, receive-done}
use Rattle.calls.proofs.Settling.{result-well-formed}

-- ---- what a call changes

-- nothing, where the buffer is as before
untouched : (config : Config) (slot : Slot) (before after : List ℕ) → before ≡ after → OnlyRecord config slot before after
untouched config slot before after e = record { as_long = ap length (sym e); elsewhere = λ i apart. ap (λ (xs : List ℕ). get_or xs i 0) (sym e) }

-- and one record, where it was stored
one-stored : (config : Config) (records bytes after : List ℕ) (slot : Slot) → good config ≡ true → length records ≡ records_size config → in_range config slot ≡ true
    → length bytes ≡ record_size → after ≡ stored config slot bytes records → OnlyRecord config slot records after
one-stored config records bytes after slot g l range long e =
    record {
      as_long = ap length e ∙ stored-length config g records l slot range bytes long;
      elsewhere = λ i apart. ap (λ (xs : List ℕ). get_or xs i 0) e ∙ stored-outside config g records l slot range bytes long i apart;
    }

pub broadcast-changes : BroadcastChanges
unfolding announced_by
broadcast-changes config payload records out seq e =
    let ok = broadcast-done config payload records out seq e in
    let g = good-says config ok.configured in
    one-stored config records (encoding (announced_by config.own payload)) (broadcast_records config payload records out) (own_slot config seq) ok.configured ok.sized
    ok.range
    (encoding-length config.n config.own (quorum config) config.own (announced_by config.own payload)
    (announced-well-formed config.n (quorum config) config.own payload g.known g.most ok.whole))
    (sym (broadcast-effect config payload records out seq e).0)

pub receive-changes : ReceiveChanges
receive-changes config bundle records out = go (receive config bundle records out) refl (read config bundle) refl
  where
    go : (o : Outcome Update) → receive config bundle records out ≡ o → (b : Outcome Header) → read config bundle ≡ b
        → OnlyRecord config (slot_in bundle) records (receive_records config bundle records out)
    go (refused number) e b f = untouched config _ records (receive_records config bundle records out) (receive-no-effect config bundle records out number e).1.0
    go (done result) e (refused number) f =
        absurd (refused-not-done number result (sym (receive-unread config bundle records out number f) ∙ e))
    go (done result) e (done h) f =
        let ok = read-says config bundle h f in
        let (room, long, taken, formed) = receive-done config bundle records out h f result e in
        let (some, fine) = result-well-formed config bundle records out h f long formed (e ∙ sym taken) result e in
        one-stored config records (encoding result.new_record) (receive_records config bundle records out) (slot_in bundle) ok.configured long
        (rw ok.slot-named ok.range) (encoding-length config.n h.sender (quorum config) config.own result.new_record fine)
        (receive-left config bundle records out result e).0

-- ---- what an answer depends on

pub open-depends : OpenDepends
unfolding opened open_reasons
open-depends config records others l = ap (λ (k : ℕ). plain (unless (reasons k) (replicate {A = ℕ} k 0))) l
  where
    reasons : ℕ → List Reason
    reasons k = (1 if not (good config)) ∷ (20 if not (eqb k (records_size config))) ∷ []

-- receiving a bundle that is read, by the two lengths and the slot's record
shape : Config → List ℕ → Header → ℕ → ℕ → List ℕ → Outcome Update
shape config bundle h room long bytes =
    checked
    ((10 if not (eqb room bundle_size))
    ∷ (20 if not (eqb long (records_size config)))
    ∷ (21 if not (well_formed config h.sender bytes))
    ∷ [])
    and_then (λ _. update config.own (quorum config) h.signers (payload_part config bundle) (decoded bytes))

receive-shape : (config : Config) (bundle records out : List ℕ) (h : Header) → read config bundle ≡ done h
    → receive config bundle records out ≡ shape config bundle h (length out) (length records) (record_at config (slot_of h) records)
unfolding receive receive_reasons shape
receive-shape config bundle records out h e = rw e

pub receive-depends : ReceiveDepends
unfolding receive_out
receive-depends config bundle records others out other l o r =
    (agrees, λ result e s. rw (e, sym agrees ∙ e, s))
  where
    go : (b : Outcome Header) → read config bundle ≡ b → receive config bundle records out ≡ receive config bundle others other
    go (refused number) e = receive-unread config bundle records out number e ∙ sym (receive-unread config bundle others other number e)
    go (done h) e =
        let slot = rw (read-says config bundle h e).slot-named at r in
        let same : shape config bundle h (length out) (length records) (record_at config (slot_of h) records)
        ≡ shape config bundle h (length other) (length others) (record_at config (slot_of h) others) = rw (o, l, slot) in
        receive-shape config bundle records out h e ∙ same ∙ sym (receive-shape config bundle others other h e)

    agrees : receive config bundle records out ≡ receive config bundle others other
    agrees = go (read config bundle) refl

-- the reasons of broadcasting are those of the lengths
reasons-same : (config : Config) (payload records others out other : List ℕ) → length records ≡ length others → length out ≡ length other
    → broadcast_reasons config payload records out ≡ broadcast_reasons config payload others other
unfolding broadcast_reasons
reasons-same config payload records others out other l o = rw (l, o)

pub broadcast-own : BroadcastOwn
unfolding broadcast
broadcast-own config payload records others out other l o same =
    rw (reasons-same config payload records others out other l o, search-own config records others 0 slots (lit≤ tt) same)

pub broadcast-depends : BroadcastDepends
unfolding broadcast broadcast_out
broadcast-depends config payload records others out other last l o below end same =
    let agrees : broadcast config payload records out ≡ broadcast config payload others other =
    rw (reasons-same config payload records others out other l o, search-agrees config records others 0 slots last zero-le below end same) in
    (agrees, λ seq e. rw (e, sym agrees ∙ e))

-- the delivered payload is a part of the record
pub shown-part : (config : Config) (slot : Slot) (records : List ℕ)
    → part (place config slot + payload_at) payload_size records ≡ part payload_at payload_size (record_at config slot records)
unfolding record_at
shown-part config slot records = sym (part-part payload_at payload_size (place config slot) record_size records (lit≤ tt))

pub delivered-depends : DeliveredDepends
unfolding delivered delivered_reasons delivered_part
delivered-depends config slot records others l r = (
  rw (l, r),
  rw (l, r)
      (after_same (delivered_reasons config slot others) (place config slot + payload_at) (λ at. part at payload_size records) (λ at. part at payload_size others) []
      (shown-part config slot records ∙ ap (part payload_at payload_size) r ∙ sym (shown-part config slot others))),
)
