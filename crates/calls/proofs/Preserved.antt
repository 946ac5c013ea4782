-- What the calls keep from one to the next: the claims of specs/Preserved.antt. A call stores one record, which is well-formed, and leaves the others.
-- Assumes nothing.
use mathlib.Core.Path.{◌≡◌, refl, sym, ap, ◌∙◌, subst}
use mathlib.Core.Bool.{Bool, true, false, true≢false}
use mathlib.Core.List.{List}
use Prim.Native.Nat.{ℕ, ◌+◌}
use lib.Dec.{eqb}
use lib.ListN.{length, replicate, length-replicate}
use borrow.Author.Tests.{eqb-true, eqb-false}
use Rattle.refusal.specs.Outcome.{Outcome, refused, done, unless}
use Rattle.refusal.proofs.Reasons.{refused-not-done}
use Rattle.config.specs.declared.Config.{Config}
use Rattle.config.specs.Config.{good, quorum, place, record_size, records_size, in_range, slot_of_day}
use Rattle.config.proofs.Laws.{good-says, range-says, in-range}
use Rattle.bundle.specs.declared.Header.{Header}
use Rattle.bundle.specs.Bundle.{read, slot_of}
use Rattle.protocol.specs.Update.{Record, Empty, Held, Delivered, payload_of, is_empty, is_delivered, Update, announced_by, update_reasons, update}
use Rattle.protocol.proofs.WellFormed.{WellFormed, announced-well-formed}
use Rattle.protocol.proofs.UpdateCases.{update-delivers, update-payload, delivers-sends}
use Rattle.record.specs.Record.{encoding, decoded, well_formed, payload_field, payload_at}
use Rattle.record.proofs.Encoding.{decoded-encoding, encoding-length, empty-encoding, encoding-well-formed, encoding-fields}
use Rattle.config.specs.declared.Slot.{Slot}
use Rattle.calls.specs.Records.{record_at, stored, own_slot}
use Rattle.calls.specs.WellFormed.{slot_well_formed}
use Rattle.calls.specs.Open.{open_records}
use Rattle.calls.specs.Broadcast.{broadcast, broadcast_records}
use Rattle.calls.specs.Receive.{receive, receive_records}
use Rattle.calls.specs.Showing.{delivered, delivered_part}
use Rattle.calls.specs.Preserved.{StaysWellFormed, SameShown, CallsKeepWellFormed, DeliveredIsShown, ShownStays}
use Rattle.calls.proofs.Records.{stored-length, stored_there, stored-elsewhere, zeros-at, same_place, all-well-formed}
use Rattle.calls.proofs.Refusals.{opened-done, broadcast-effect, broadcast-no-effect, receive-left, receive-no-effect, receive-unread, receive-updated, delivered-done, delivered-says, delivered-record}
use Rattle.calls.proofs.LowestFree.{broadcast-done}
use Rattle.calls.proofs.ReceiveFacts.{read-says, receive-done}
use Rattle.calls.proofs.Settling.{result-well-formed}
use Rattle.calls.proofs.Algorithm.{broadcast-follows}
use Rattle.calls.proofs.Locality.{shown-part, delivered-depends}

-- the bytes of a well-formed record are 64
well-formed-length : (config : Config) (sender : ℕ) (r : Record) → WellFormed config.n sender (quorum config) config.own r → length (encoding r) ≡ record_size
well-formed-length config sender r fine = encoding-length config.n sender (quorum config) config.own r fine

-- ---- one record stored

-- what a call leaves: the buffer, or, at a node with a good table and a buffer of its length, the buffer with one well-formed record stored
data Left (config : Config) (records : List ℕ) : List ℕ → Type 0 where
  same_left : {after : List ℕ} → records ≡ after → Left config records after
  one_left : {after : List ℕ} (slot : Slot) (r : Record) → good config ≡ true → length records ≡ records_size config → in_range config slot ≡ true
      → WellFormed config.n slot.sender (quorum config) config.own r → is_delivered (decoded (record_at config slot records)) ≡ false → after ≡ stored config slot (encoding r) records → Left config records after

module _ (config : Config) (records : List ℕ) where
  left-length : (after : List ℕ) → Left config records after → length after ≡ length records
  left-length after (same_left e) = ap length (sym e)
  left-length after (one_left slot r g l range fine fresh e) =
      ap length e ∙ stored-length config g records l slot range (encoding r) (well-formed-length config slot.sender r fine)

  -- the record of a slot is the one stored, or is as before
  left-well-formed : (after : List ℕ) → Left config records after → StaysWellFormed config records after
  left-well-formed after (same_left e) other within was = subst (λ (xs : List ℕ). well_formed config other.sender (record_at config other xs) ≡ true) e was
  left-well-formed after (one_left slot r g l range fine fresh e) other within was = go (eqb other.sender slot.sender) refl (eqb other.seq slot.seq) refl
    where
      long : length (encoding r) ≡ record_size
      long = well-formed-length config slot.sender r fine

      elsewhere : (other.sender ≡ slot.sender → other.seq ≡ slot.seq → ⊥) → well_formed config other.sender (record_at config other after) ≡ true
      elsewhere apart =
          ap (λ (xs : List ℕ). well_formed config other.sender (record_at config other xs)) e
          ∙ ap (well_formed config other.sender) (stored-elsewhere config g records l slot range (encoding r) long other within apart)
          ∙ was

      there : other.sender ≡ slot.sender → other.seq ≡ slot.seq → well_formed config other.sender (record_at config other after) ≡ true
      there p q =
          rw (same_place config other slot p q after, p)
          (ap (λ (xs : List ℕ). well_formed config slot.sender (record_at config slot xs)) e
          ∙ ap (well_formed config slot.sender) (stored_there config g records l slot range (encoding r) long)
          ∙ encoding-well-formed config slot.sender (good-says config g).most r fine)

      go : (x : Bool) → eqb other.sender slot.sender ≡ x → (y : Bool) → eqb other.seq slot.seq ≡ y
          → well_formed config other.sender (record_at config other after) ≡ true
      go true x true y = there (eqb-true other.sender slot.sender x) (eqb-true other.seq slot.seq y)
      go true x false y = elsewhere (λ p q. eqb-false other.seq slot.seq y q)
      go false x y z = elsewhere (λ p q. eqb-false other.sender slot.sender x p)

  -- what is shown stays: a slot that is delivered is not the one stored
  left-shown : (after : List ℕ) → Left config records after → (other : Slot) (start : ℕ) → delivered config other records ≡ done start
      → SameShown config other after records
  left-shown after (same_left e) other start d = subst (λ (xs : List ℕ). SameShown config other xs records) e (refl, refl)
  left-shown after (one_left slot r g l range fine fresh e) other start d =
      subst (λ (xs : List ℕ). SameShown config other xs records) (sym e)
      (delivered-depends config other (stored config slot (encoding r) records) records
      (stored-length config g records l slot range (encoding r) (well-formed-length config slot.sender r fine))
      (stored-elsewhere config g records l slot range (encoding r) (well-formed-length config slot.sender r fine) other (delivered-says config other records start d).1
      (λ p q. true≢false (sym (delivered-record config other records start d) ∙ rw (same_place config other slot p q records) fresh))))

-- ---- what each call leaves

-- announcing takes an empty record
module _ (config : Config) (payload records out : List ℕ) where
  broadcast-left : Left config records (broadcast_records config payload records out)
  unfolding slot_of_day
  broadcast-left = go (broadcast config payload records out) refl
    where
      go : (o : Outcome ℕ) → broadcast config payload records out ≡ o → Left config records (broadcast_records config payload records out)
      go (refused number) e = same_left (broadcast-no-effect config payload records out number e).1.0
      go (done seq) e =
          let ok = broadcast-done config payload records out seq e in
          let g = good-says config ok.configured in
          one_left (own_slot config seq) (announced_by config.own payload) ok.configured ok.sized ok.range
          (announced-well-formed config.n (quorum config) config.own payload g.known g.most ok.whole)
          (ap is_delivered (broadcast-follows config payload records out seq e).0)
          (sym (broadcast-effect config payload records out seq e).0)

-- a slot that is delivered refuses
late : (own q signers : ℕ) (payload : List ℕ) (r : Record) → is_delivered r ≡ true → update own q signers payload r ≡ refused 22
unfolding update update_reasons unless
late own q signers payload Empty e = absurd (true≢false (sym e))
late own q signers payload (Held known first note) e = absurd (true≢false (sym e))
late own q signers payload (Delivered known first note) e = refl

-- so one that is taken was not
taken-fresh : (own q signers : ℕ) (payload : List ℕ) (r : Record) (result : Update) → update own q signers payload r ≡ done result → is_delivered r ≡ false
taken-fresh own q signers payload r result e = go (is_delivered r) refl
  where
    go : (b : Bool) → is_delivered r ≡ b → is_delivered r ≡ false
    go true h = absurd (refused-not-done 22 result (sym (late own q signers payload r h) ∙ e))
    go false h = h

module _ (config : Config) (bundle records out : List ℕ) where
  module _ (h : Header) (e : read config bundle ≡ done h) (result : Update) (f : receive config bundle records out ≡ done result) where
    -- the record stored is well-formed, and not empty
    receive-stores : (is_empty result.new_record ≡ false) × WellFormed config.n h.sender (quorum config) config.own result.new_record
    receive-stores =
        let (room, long, stepped, formed) = receive-done config bundle records out h e result f in
        result-well-formed config bundle records out h e long formed (receive-updated config bundle records out h e room long formed) result f

    receive-leaves : receive_records config bundle records out ≡ stored config (slot_of h) (encoding result.new_record) records
    receive-leaves = (receive-left config bundle records out result f).0 ∙ rw (read-says config bundle h e).slot-named

  receive-left-one : Left config records (receive_records config bundle records out)
  receive-left-one = go (receive config bundle records out) refl (read config bundle) refl
    where
      go : (o : Outcome Update) → receive config bundle records out ≡ o → (b : Outcome Header) → read config bundle ≡ b → Left config records (receive_records config bundle records out)
      go (refused number) e b f = same_left (receive-no-effect config bundle records out number e).1.0
      go (done result) e (refused number) f = absurd (refused-not-done number result (sym (receive-unread config bundle records out number f) ∙ e))
      go (done result) e (done h) f =
          let ok = read-says config bundle h f in
          let (room, long, stepped, formed) = receive-done config bundle records out h f result e in
          one_left (slot_of h) result.new_record ok.configured long ok.range (receive-stores h f result e).1
          (taken-fresh _ _ _ _ _ result stepped) (receive-leaves h f result e)

-- whatever the table and the buffer, each leaves the buffer its length
pub broadcast-length : (config : Config) (payload records out : List ℕ) → length (broadcast_records config payload records out) ≡ length records
broadcast-length config payload records out = left-length config records _ (broadcast-left config payload records out)

pub receive-length : (config : Config) (bundle records out : List ℕ) → length (receive_records config bundle records out) ≡ length records
receive-length config bundle records out = left-length config records _ (receive-left-one config bundle records out)

-- ---- the claims

pub calls-keep-well-formed : CallsKeepWellFormed
unfolding open_records slot_well_formed slot_of_day
calls-keep-well-formed config records g l = (
  (
    rw (opened-done config records g l, l)
        (all-well-formed config (replicate (records_size config) 0)
        (λ sender seq s k.
        let slot = slot_of_day config sender seq in
        ap (well_formed config sender) (zeros-at config slot g (in-range config slot s k) ∙ empty-encoding) ∙ encoding-well-formed config sender (good-says config g).most Empty tt)),
    rw (opened-done config records g l) (length-replicate {A = ℕ} (length records) 0),
  ),
  λ payload out. (left-well-formed config records _ (broadcast-left config payload records out), broadcast-length config payload records out),
  λ bundle out. (left-well-formed config records _ (receive-left-one config bundle records out), receive-length config bundle records out),
)

pub shown-stays : ShownStays
shown-stays config records slot start d = (
  λ payload out. left-shown config records _ (broadcast-left config payload records out) slot start d,
  λ bundle out. left-shown config records _ (receive-left-one config bundle records out) slot start d,
)

-- a delivered record is not empty
delivered-some : (r : Record) → is_delivered r ≡ true → is_empty r ≡ false
delivered-some Empty e = absurd (true≢false (sym e))
delivered-some (Held signers payload note) e = refl
delivered-some (Delivered signers payload note) e = refl

-- a well-formed record that is delivered is shown: its place, and its payload
pub record-shown : (config : Config) (slot : Slot) (records : List ℕ) (r : Record) → good config ≡ true → in_range config slot ≡ true
    → length records ≡ records_size config → record_at config slot records ≡ encoding r → WellFormed config.n slot.sender (quorum config) config.own r → is_delivered r ≡ true
    → (delivered config slot records ≡ done (place config slot + payload_at)) × (delivered_part config slot records ≡ payload_of r)
unfolding delivered_part
record-shown config slot records r g range l there fine d =
    let most = (good-says config g).most in
    let shown =
    delivered-done config slot records g (range-says config slot range).0 (range-says config slot range).1 l (ap (well_formed config slot.sender) there ∙ encoding-well-formed config slot.sender most r fine)
    (ap (λ (xs : List ℕ). is_delivered (decoded xs)) there ∙ ap is_delivered (decoded-encoding config.n slot.sender (quorum config) config.own most r fine) ∙ d) in (
      shown,
      rw shown
          (shown-part config slot records ∙ ap payload_field there ∙ (encoding-fields config.n slot.sender (quorum config) config.own most r (delivered-some r d) fine).1),
    )

pub delivered-is-shown : DeliveredIsShown
delivered-is-shown config bundle records out h result e f d =
    let ok = read-says config bundle h e in
    let (room, long, stepped, formed) = receive-done config bundle records out h e result f in
    let (some, fine) = receive-stores config bundle records out h e result f in
    let there : record_at config (slot_of h) (receive_records config bundle records out) ≡ encoding result.new_record =
    ap (record_at config (slot_of h)) (receive-leaves config bundle records out h e result f)
    ∙ stored_there config ok.configured records long (slot_of h) ok.range (encoding result.new_record) (well-formed-length config h.sender result.new_record fine) in
    let (shown, same) =
    record-shown config (slot_of h) (receive_records config bundle records out) result.new_record ok.configured ok.range
    (receive-length config bundle records out ∙ long) there fine (update-delivers _ _ _ _ _ result stepped d) in
    (shown, same ∙ update-payload _ _ _ _ _ result stepped (delivers-sends result.answer d))
