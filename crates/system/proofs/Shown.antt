-- What the nodes show is what they delivered: the claims of specs/Shown.antt. After a list in order the slot's bytes at a node that was called are the record
-- that the acts leave, and that record is delivered with a payload exactly if the payload was delivered. From proofs/Simulation.antt, and the laws of showing
-- and of values.
-- Assumes nothing.
use mathlib.Core.Path.{◌≡◌, refl, sym, ap, ◌∙◌, subst}
use mathlib.Core.Bool.{Bool, true, false, true≢false, and-eq-true_iff}
use mathlib.Core.List.{List}
use Prim.Native.Nat.{ℕ, ◌+◌, ◌<◌}
use Rattle.octets.proofs.Same.{same_self}
use Rattle.refusal.specs.Outcome.{Outcome, refused, done, after}
use Rattle.refusal.proofs.Reasons.{refused-not-done}
use Rattle.config.specs.declared.Slot.{Slot}
use Rattle.config.specs.Config.{with_own, good, quorum, slot_of_day, place}
use Rattle.config.proofs.Laws.{good-says}
use Rattle.bundle.specs.Bundle.{payload_in}
use Rattle.protocol.specs.Update.{Note, Record, Empty, Held, Delivered, is_delivered, payload_of}
use Rattle.protocol.specs.Trace.{Trace}
use Rattle.protocol.proofs.WellFormed.{WellFormed}
use Rattle.protocol.proofs.TraceLaws.{ever-finds, ever-mono}
use Rattle.protocol.proofs.SentSoFar.{delivered-record, record-delivered}
use Rattle.record.specs.Record.{decoded, payload_at}
use Rattle.record.proofs.Encoding.{decoded-encoding}
use Rattle.calls.proofs.Refusals as refusals
use Rattle.calls.proofs.Refusals.{delivered-says}
use Rattle.calls.proofs.Preserved.{record-shown}
use Rattle.system.specs.Demand3.{Call, Open, Broadcast, Receive, System, config_at, records_after, delivers_in, delivers, buffer, ever, called}
use Rattle.system.specs.Shown.{shown_place, shown_payload, ShownIsDelivered, ShownAgrees}
use Rattle.system.specs.Order.{Orderly}
use Rattle.system.proofs.CommonConfig.{quorum_of, config-good, config-quorum, InRange, range_at, range-from}
use Rattle.system.proofs.CallMatchesAct.{HoldsRecord}
use Rattle.system.proofs.CallTests.{delivers-in}
use Rattle.system.proofs.Simulation.{correct-below, assumed-orderly, acts, slot_record, order-holds}
use Rattle.system.proofs.Demand3.{delivered-forth, delivered-back, delivered-range, demand3}

-- a record that is delivered has signers beside its payload
delivered-fields : (r : Record) → is_delivered r ≡ true → (signers : ℕ) × (note : Note) × (r ≡ Delivered signers (payload_of r) note)
delivered-fields Empty e = absurd (true≢false (sym e))
delivered-fields (Held signers payload note) e = absurd (true≢false (sym e))
delivered-fields (Delivered signers payload note) e = (signers, note, refl)

-- a call that delivers delivers some payload
delivers-some : (s : System) (slot : Slot) (u : ℕ) (call : Call) (records : List ℕ) → delivers_in s slot u call records ≡ true
    → (payload : List ℕ) × (delivers s slot payload u call records ≡ true) × Unit {0}
unfolding delivers_in delivers
delivers-some s slot u Open records e = absurd (true≢false (sym e))
delivers-some s slot u (Broadcast given out) records e = absurd (true≢false (sym e))
delivers-some s slot u (Receive bundle out) records e =
    (payload_in bundle, (and-eq-true_iff _ _).1 (e, same_self (payload_in bundle)), tt)

module _ (s : System) (list : Trace Call) (orderly : Orderly s list) (u : ℕ) (slot : Slot) (today : slot.day ≡ s.shared.day) (known : u < s.shared.n) (here : called s list u ≡ true) where
  good-here : good (config_at s u) ≡ true
  good-here = config-good s u orderly.configured known

  -- a slot that is shown is in range
  shown-range : (start : ℕ) → shown_place s list u slot ≡ done start → InRange s slot
  unfolding config_at with_own
  shown-range start e = range-from s slot u today (delivered-says (config_at s u) slot (buffer s list u) start e).1

  module _ (range : InRange s slot) where
    -- the record that the acts leave in the slot
    abbrev left : Record
    left = slot_record s slot list u

    holds : HoldsRecord s slot u (buffer s list u) left
    holds = order-holds s slot range orderly.configured orderly.dated list orderly.ordered u here

    left-well-formed : WellFormed (config_at s u).n slot.sender (quorum (config_at s u)) (config_at s u).own left
    unfolding config_at with_own
    left-well-formed =
        subst (λ (q : ℕ). WellFormed s.shared.n slot.sender q u left) (sym (config-quorum s u orderly.configured known)) holds.well-formed

    -- if it is delivered, its payload is shown
    left-shown : is_delivered left ≡ true
        → (shown_place s list u slot ≡ done (place (config_at s u) slot + payload_at))
        × (shown_payload s list u slot ≡ payload_of left)
    left-shown d = record-shown (config_at s u) slot (buffer s list u) left good-here (range_at s slot u range) holds.sized holds.held left-well-formed d

    -- and if something is shown, it is delivered
    shown-left : (start : ℕ) → shown_place s list u slot ≡ done start → is_delivered left ≡ true
    shown-left start e =
        sym (ap is_delivered
        (ap decoded holds.held
        ∙ decoded-encoding (config_at s u).n slot.sender (quorum (config_at s u)) (config_at s u).own (good-says (config_at s u) good-here).most left left-well-formed))
        ∙ refusals.delivered-record (config_at s u) slot (buffer s list u) start e

  -- what is shown was delivered,
  shown-delivered : (payload : List ℕ) (start : ℕ) → shown_place s list u slot ≡ done start
      → shown_payload s list u slot ≡ payload → ever s (delivers s slot payload) list u ≡ true
  shown-delivered payload start e this =
      let range = shown-range start e in
      let d = shown-left range start e in
      let (signers, note, is) = delivered-fields (left range) d in
      delivered-back s list orderly slot range payload u
      (record-delivered (quorum_of s) (acts s slot list) u signers payload note
      (is ∙ ap (λ (p : List ℕ). Delivered signers p note) (sym (left-shown range d).1 ∙ this)))

  -- and what was delivered is shown
  delivered-shown : (payload : List ℕ) → ever s (delivers s slot payload) list u ≡ true
      → (shown_place s list u slot ≡ done (place (config_at s u) slot + payload_at))
      × (shown_payload s list u slot ≡ payload)
  delivered-shown payload e =
      let range = delivered-range s list u slot payload e in
      let (signers, note, is, sent) =
      delivered-record (quorum_of s) (acts s slot list) u payload (delivered-forth s list orderly slot range payload u e) in
      let shown = left-shown range (ap is_delivered is) in
      (shown.0, shown.1 ∙ ap payload_of is)

  -- so a slot is shown exactly if the node was answered delivered there, whatever the payload
  pub shown-answered : after (shown_place s list u slot) (λ place. true) false ≡ ever s (delivers_in s slot) list u
  shown-answered = go (shown_place s list u slot) refl (ever s (delivers_in s slot) list u) refl
    where
      go : (o : Outcome ℕ) → shown_place s list u slot ≡ o → (b : Bool) → ever s (delivers_in s slot) list u ≡ b
          → after o (λ place. true) false ≡ b
      go (done start) e true f = refl
      go (done start) e false f =
          sym (ever-mono s.buffers (records_after s) (delivers s slot _) (delivers_in s slot) u
          (λ call records. delivers-in s slot _ u call records) list (shown-delivered _ start e refl)) ∙ f
      go (refused number) e true f =
          let (payload, answered, rest) =
          ever-finds s.buffers (records_after s) (delivers_in s slot) (λ payload. delivers s slot payload) (λ payload. Unit {0}) u
          (delivers-some s slot u) list f in
          absurd (refused-not-done number _ (sym e ∙ (delivered-shown payload answered).0))
      go (refused number) e false f = refl

-- ---- the claims

pub shown-is-delivered : ShownIsDelivered
unfolding slot_of_day
shown-is-delivered s list orderly u sender seq payload known here =
    let slot = slot_of_day s.shared sender seq in
    (shown-delivered s list orderly u slot refl known here payload, delivered-shown s list orderly u slot refl known here payload)

-- the payloads shown were delivered, and those agree
pub shown-agrees : ShownAgrees
unfolding slot_of_day
shown-agrees s list assumed u v sender seq here there fu fv cu cv e f =
    let orderly = assumed-orderly s list assumed in
    let slot = slot_of_day s.shared sender seq in
    (demand3 s list assumed).agreement u v slot _ _ fu fv
    (shown-delivered s list orderly u slot refl (correct-below s u fu) cu _ here e refl)
    (shown-delivered s list orderly v slot refl (correct-below s v fv) cv _ there f refl)
