-- R13.1, of the calls: what specs/Algorithm.antt claims, from the same on values.
-- Assumes nothing.
use mathlib.Core.Path.{◌≡◌, refl, sym, ap, ◌∙◌, subst}
use mathlib.Core.Bool.{true, cond}
use mathlib.Core.List.{List}
use Prim.Native.Nat.{ℕ}
use lib.ListN.{length, replicate}
use Rattle.octets.proofs.Same.{blank-says}
use Rattle.refusal.specs.Outcome.{done}
use Rattle.config.specs.declared.Config.{Config}
use Rattle.config.specs.Config.{good, quorum, record_size, records_size, in_range, slot_of_day}
use Rattle.config.proofs.Laws.{good-says, quorum-intersects}
use Rattle.bundle.specs.Bundle.{payload_in, header_in, payload_part, slot_of, slot_in}
use Rattle.bundle.proofs.Accepted.{unsigned-says}
use Rattle.protocol.specs.Update.{Record, Empty, Held, Delivered, sends, Update, announced_by}
use Rattle.protocol.specs.Algorithm as algorithm
use Rattle.protocol.proofs.WellFormed.{WellFormed, announced-well-formed}
use Rattle.protocol.proofs.Algorithm as values
use Rattle.record.specs.Record.{encoding, decoded}
use Rattle.record.proofs.Encoding.{decoded-encoding, decoded-well-formed, encoding-length}
use Rattle.config.specs.declared.Slot.{Slot}
use Rattle.calls.specs.Records.{record_at, stored, own_slot}
use Rattle.calls.specs.Open.{open_records}
use Rattle.calls.specs.Receive.{record_bundle, receive, receive_records, receive_out}
use Rattle.calls.specs.Algorithm.{record_of, StricterQuorumWaits, OpenStarts, BroadcastFollows, UnsignedFollows, ReceiveFollowsBy, ReceiveFollows, LeastQuorumFollowsArticle}
use Rattle.calls.proofs.Records.{record_at-length, stored_there, zeros-at}
use Rattle.calls.proofs.Refusals.{opened-done, broadcast-effect, receive-left, receive-unread, receive-updated}
use Rattle.calls.proofs.LowestFree.{broadcast-done}
use Rattle.calls.proofs.ReceiveFacts.{read-says}
use Rattle.calls.proofs.Settling.{result-well-formed}

-- zeros write an empty record
empty-zeros : decoded (replicate record_size 0) ≡ Empty
unfolding decoded
empty-zeros = refl

-- a well-formed record that is stored is kept
record-stored : (config : Config) (records : List ℕ) (slot : Slot) (r : Record) → good config ≡ true → length records ≡ records_size config → in_range config slot ≡ true
    → WellFormed config.n slot.sender (quorum config) config.own r → record_of config slot (stored config slot (encoding r) records) ≡ r
record-stored config records slot r g l range fine =
    let whole = encoding-length config.n slot.sender (quorum config) config.own r fine in
    ap decoded (stored_there config g records l slot range (encoding r) whole) ∙ decoded-encoding config.n slot.sender (quorum config) config.own (good-says config g).most r fine

pub stricter-quorum-waits : StricterQuorumWaits
stricter-quorum-waits config sender m σ g =
    values.stricter-quorum-waits config.own config.n config.t (quorum config) sender m σ (quorum-intersects config g)

pub open-starts : OpenStarts
unfolding open_records
open-starts config records slot g l range =
    rw (opened-done config records g l, l) (ap decoded (zeros-at config slot g range) ∙ empty-zeros)

pub broadcast-follows : BroadcastFollows
unfolding announced_by slot_of_day
broadcast-follows config payload records out seq e =
    let ok = broadcast-done config payload records out seq e in
    let g = good-says config ok.configured in
    let long = record_at-length config ok.configured records ok.sized (own_slot config seq) ok.range in
    let zeros = blank-says (record_at config (own_slot config seq) records) ok.free ∙ ap (λ (k : ℕ). replicate k 0) long in
    let (records-left, out-left) = broadcast-effect config payload records out seq e in
    let (state, effects) = values.broadcast-follows config.own payload in
    let after =
    ap (record_of config (own_slot config seq)) (sym records-left)
    ∙ record-stored config records (own_slot config seq) (announced_by config.own payload) ok.configured ok.sized ok.range
    (announced-well-formed config.n (quorum config) config.own payload g.known g.most ok.whole) in
    (ap decoded zeros ∙ empty-zeros, rw after state, effects, sym out-left)

pub unsigned-follows : UnsignedFollows
unsigned-follows config bundle records out σ e =
    let (state, effects) = values.unsigned-ignored config.own (algorithm.at_least (quorum config)) (header_in bundle).sender (header_in bundle).signers (payload_in bundle) σ
    (unsigned-says config bundle e) in
    (receive-unread config bundle records out 8 e, state, effects)

-- a well-formed record that is held has the node's own signature
has-own : (config : Config) (sender : ℕ) (r : Record) → WellFormed config.n sender (quorum config) config.own r → algorithm.HasOwn config.own r
has-own config sender Empty fine = tt
has-own config sender (Held signers payload note) fine = fine.1
has-own config sender (Delivered signers payload note) fine = tt

pub receive-follows : ReceiveFollows
receive-follows config bundle records out h e o l formed =
    let ok = read-says config bundle h e in
    let taken = receive-updated config bundle records out h e o l formed in (
      subst (algorithm.Follows config.own (algorithm.at_least (quorum config)) h.sender h.signers (payload_part config bundle) (record_of config (slot_of h) records)) (sym taken)
          (values.update-follows config.own (quorum config) h.sender h.signers (payload_part config bundle) (record_of config (slot_of h) records)
          ok.bundled.authentic
          (has-own config h.sender (record_of config (slot_of h) records)
          (decoded-well-formed config h.sender (record_at config (slot_of h) records) (record_at-length config ok.configured records l (slot_of h) ok.range) formed))),
      λ result f. (
        ap (record_of config (slot_of h)) (left result f ok.slot-named)
            ∙ record-stored config records (slot_of h) result.new_record ok.configured l ok.range
            (result-well-formed config bundle records out h e l formed taken result f).1,
        written result f ok.slot-named,
      ),
    )
  where
    left : (result : Update) → receive config bundle records out ≡ done result → slot_in bundle ≡ slot_of h
        → receive_records config bundle records out ≡ stored config (slot_of h) (encoding result.new_record) records
    left result f q = (receive-left config bundle records out result f).0 ∙ rw q

    written : (result : Update) → receive config bundle records out ≡ done result → slot_in bundle ≡ slot_of h
        → receive_out config bundle records out ≡ cond (sends result.answer) (record_bundle (slot_of h) result.new_record) out
    written result f q = (receive-left config bundle records out result f).1 ∙ rw q

pub least-quorum-follows-article : LeastQuorumFollowsArticle
least-quorum-follows-article config least =
    subst (ReceiveFollowsBy config) (ap algorithm.at_least least ∙ values.least-quorum-is-line9 config.n config.t) (receive-follows config)
