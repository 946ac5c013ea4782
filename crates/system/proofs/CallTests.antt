-- The tests of specs/Demand3.antt on a call, beside the tests on the act that the call matches: where one passes the other does. From
-- proofs/CallMatchesAct.antt, and the bundles that reading gives back.
-- Assumes nothing.
use mathlib.Core.Path.{◌≡◌, refl, sym, ap, ap₂, ◌∙◌, subst, subst₂}
use mathlib.Core.Option.{Option, none, some}
use mathlib.Core.Bool.{Bool, true, false, ◌&&◌, true≢false, and-eq-true_iff}
use mathlib.Core.List.{List}
use Prim.Native.Nat.{ℕ, ◌<◌, ◌^◌}
use lib.Dec.{eqb}
use borrow.Author.Tests.{eqb-true}
use Rattle.octets.specs.Octets.{same}
use Rattle.octets.proofs.Same.{same-says, same_self}
use Rattle.signers.specs.Signers.{member}
use Rattle.refusal.specs.Outcome.{Outcome, refused, done, after}
use Rattle.config.specs.declared.Slot.{Slot}
use Rattle.config.specs.Config.{with_own, good}
use Rattle.bundle.specs.declared.Header.{Header}
use Rattle.bundle.specs.Bundle.{header_in, payload_in}
use Rattle.protocol.specs.Update as answers
use Rattle.protocol.specs.Update.{Record, Empty, Update, signers_of, payload_of}
use Rattle.protocol.specs.OneSlot as one-slot
use Rattle.protocol.specs.OneSlot.{Act}
use Rattle.protocol.specs.Differences as differences
use Rattle.protocol.proofs.WellFormed.{Bundled}
use Rattle.calls.proofs.ReceiveFacts.{read-says}
use Rattle.config.proofs.Laws.{good-says, same-slot-self}
use Rattle.system.specs.Demand3.{Call, Open, Broadcast, Receive, System, config_at, in_slot, records_after, out_after, announces_in, announces, delivers_in, delivers, sends, sends_this, sends_in, signs, reaches}
use Rattle.system.specs.Differences.{delivers_at_once}
use Rattle.system.proofs.Projection as projection
use Rattle.system.proofs.CallInSlot.{act_in}
use Rattle.system.proofs.CommonConfig.{quorum_of, InRange, slot_header, slot_bundle, bundle-in-slot, bundle-reads}
use Rattle.system.proofs.CallMatchesAct.{ActCall, MatchesAct}

-- a test on the act that a call comes to, at its node
abbrev pub act_passes : (s : System) (slot : Slot) (test : (node : ℕ) (act : Act) (r : Record) → Bool) (node : ℕ) (act : Option Act) (r : Record) → Bool
act_passes s slot = projection.act_passes s.buffers (records_after s) (λ node. Empty) (one-slot.record_after (quorum_of s)) (act_in s slot)

not-both : {A : Type 0} {b : Bool} → b ≡ true → b ≡ false → A
not-both e f = absurd (true≢false (sym e ∙ f))

-- a payload is delivered by a call that delivers
pub delivers-in : (s : System) (slot : Slot) (payload : List ℕ) (u : ℕ) (call : Call) (records : List ℕ) → delivers s slot payload u call records ≡ true
    → delivers_in s slot u call records ≡ true
unfolding delivers
delivers-in s slot payload u Open records e = absurd (true≢false (sym e))
delivers-in s slot payload u (Broadcast given out) records e = absurd (true≢false (sym e))
delivers-in s slot payload u (Receive bundle out) records e =
    ((and-eq-true_iff (delivers_in s slot u (Receive bundle out) records) (same (payload_in bundle) payload)).0 e).0

-- and a payload is announced by a call that announces
pub announces-in : (s : System) (slot : Slot) (payload : List ℕ) (u : ℕ) (call : Call) (records : List ℕ) → announces s slot payload u call records ≡ true
    → announces_in s slot u call records ≡ true
unfolding announces
announces-in s slot payload u Open records e = absurd (true≢false (sym e))
announces-in s slot payload u (Broadcast given out) records e =
    ((and-eq-true_iff (announces_in s slot u (Broadcast given out) records) (same given payload)).0 e).0
announces-in s slot payload u (Receive bundle out) records e = absurd (true≢false (sym e))

-- an act that sends, by its update
sends-result : (q u : ℕ) (a : Act) (r : Record) → one-slot.sends q u a r ≡ true → (result : Update) × (one-slot.outcome q u a r ≡ done result) × (answers.sends result.answer ≡ true)
unfolding one-slot.sends
sends-result q u a r e = go (one-slot.outcome q u a r) refl e
  where
    go : (o : Outcome Update) → one-slot.outcome q u a r ≡ o → after o (λ result. answers.sends result.answer) false ≡ true
        → (result : Update) × (one-slot.outcome q u a r ≡ done result) × (answers.sends result.answer ≡ true)
    go (refused number) f x = absurd (true≢false (sym x))
    go (done result) f x = (result, f, x)

-- an act that sends this bundle, by its update
sends-this-result : (q : ℕ) (signers : ℕ) (payload : List ℕ) (u : ℕ) (a : Act) (r : Record) → one-slot.sends_this q signers payload u a r ≡ true
    → (result : Update) × (one-slot.outcome q u a r ≡ done result) × (answers.sends result.answer ≡ true) × (signers_of result.new_record ≡ signers) × (payload_of result.new_record ≡ payload)
unfolding one-slot.sends_this
sends-this-result q signers payload u a r e = go (one-slot.outcome q u a r) refl e
  where
    go : (o : Outcome Update) → one-slot.outcome q u a r ≡ o
        → after o (λ result. answers.sends result.answer && (eqb (signers_of result.new_record) signers && same (payload_of result.new_record) payload)) false ≡ true
        → (result : Update) × (one-slot.outcome q u a r ≡ done result) × (answers.sends result.answer ≡ true) × (signers_of result.new_record ≡ signers) × (payload_of result.new_record ≡ payload)
    go (refused number) f x = absurd (true≢false (sym x))
    go (done result) f x =
        let b = (and-eq-true_iff (answers.sends result.answer) (eqb (signers_of result.new_record) signers && same (payload_of result.new_record) payload)).0 x in
        let same-both = (and-eq-true_iff (eqb (signers_of result.new_record) signers) (same (payload_of result.new_record) payload)).0 b.1 in
        (result, f, b.0, eqb-true (signers_of result.new_record) signers same-both.0, same-says (payload_of result.new_record) payload same-both.1)

module _ (s : System) (slot : Slot) (u : ℕ) (call : Call) (records : List ℕ) (r : Record) where
  -- delivering, of whatever payload and of this one
  pub delivers-any : (m : Option Act) → MatchesAct s slot u call records r m → delivers_in s slot u call records ≡ true
      → act_passes s slot (one-slot.delivers (quorum_of s)) u m r ≡ true
  delivers-any none h e = not-both e h.undelivered
  delivers-any (some a) h e = sym h.as-delivered ∙ e

  pub delivers-forth : (payload : List ℕ) (m : Option Act) → MatchesAct s slot u call records r m → delivers s slot payload u call records ≡ true
      → act_passes s slot (one-slot.delivers_this (quorum_of s) payload) u m r ≡ true
  delivers-forth payload none h e = not-both (delivers-in s slot payload u call records e) h.undelivered
  delivers-forth payload (some a) h e = sym (h.as-delivered-this payload) ∙ e

  pub delivers-back : (payload : List ℕ) (m : Option Act) → MatchesAct s slot u call records r m
      → act_passes s slot (one-slot.delivers_this (quorum_of s) payload) u m r ≡ true → delivers s slot payload u call records ≡ true
  delivers-back payload none h e = absurd (true≢false (sym e))
  delivers-back payload (some a) h e = h.as-delivered-this payload ∙ e

  -- announcing, of whatever payload and of this one
  pub announces-any : (m : Option Act) → MatchesAct s slot u call records r m → announces_in s slot u call records ≡ true
      → act_passes s slot (one-slot.broadcasts (quorum_of s)) u m r ≡ true
  announces-any none h e = not-both e h.unannounced
  announces-any (some a) h e = sym h.as-announced ∙ e

  pub announces-forth : (payload : List ℕ) (m : Option Act) → MatchesAct s slot u call records r m → announces s slot payload u call records ≡ true
      → act_passes s slot (one-slot.broadcasts_this (quorum_of s) payload) u m r ≡ true
  announces-forth payload none h e = not-both (announces-in s slot payload u call records e) h.unannounced
  announces-forth payload (some a) h e = sym (h.as-announced-this payload) ∙ e

  pub announces-back : (payload : List ℕ) (m : Option Act) → MatchesAct s slot u call records r m
      → act_passes s slot (one-slot.broadcasts_this (quorum_of s) payload) u m r ≡ true → announces s slot payload u call records ≡ true
  announces-back payload none h e = absurd (true≢false (sym e))
  announces-back payload (some a) h e = h.as-announced-this payload ∙ e

  -- receiving a bundle that a correct node could have sent
  pub reaches-forth : (signers : ℕ) (payload : List ℕ) → Bundled s.shared.n slot.sender signers payload → (m : Option Act) → MatchesAct s slot u call records r m
      → reaches s (slot_bundle slot signers payload) u call records ≡ true → act_passes s slot (one-slot.receives (quorum_of s) signers payload) u m r ≡ true
  reaches-forth signers payload b none h e = absurd (h.unreached signers payload b e)
  reaches-forth signers payload b (some a) h e = h.as-reached signers payload b e

  -- sending
  pub sends-forth : (m : Option Act) → MatchesAct s slot u call records r m → sends_in s slot u call records ≡ true
      → act_passes s slot (one-slot.sends (quorum_of s)) u m r ≡ true
  unfolding sends_in
  sends-forth none h e = not-both e h.unsent
  sends-forth (some a) h e =
      sym h.as-sent ∙ ((and-eq-true_iff (sends s u call records) (in_slot slot (out_after s u call records))).0 e).0

  -- sending this bundle, by its bytes; it is one that a correct node could have sent
  pub sends-back : (signers : ℕ) (payload : List ℕ) (m : Option Act) → MatchesAct s slot u call records r m
      → act_passes s slot (one-slot.sends_this (quorum_of s) signers payload) u m r ≡ true
      → sends_this s (slot_bundle slot signers payload) u call records ≡ true
  unfolding sends_this one-slot.sends
  sends-back signers payload none h e = absurd (true≢false (sym e))
  sends-back signers payload (some a) h e =
      let t = sends-this-result (quorum_of s) signers payload u a r e in
      let out : out_after s u call records ≡ slot_bundle slot signers payload =
      (h.as_written t.0 t.1 t.2).0 ∙ ap₂ (λ (x : ℕ) (p : List ℕ). slot_bundle slot x p) t.3 t.4 in
      (and-eq-true_iff (sends s u call records) (same (out_after s u call records) (slot_bundle slot signers payload))).1
      (h.as-sent ∙ rw t.1 t.2, rw out (same_self (slot_bundle slot signers payload)))

  pub sends-bundled : (signers : ℕ) (payload : List ℕ) (m : Option Act) → MatchesAct s slot u call records r m
      → act_passes s slot (one-slot.sends_this (quorum_of s) signers payload) u m r ≡ true → Bundled s.shared.n slot.sender signers payload
  sends-bundled signers payload none h e = absurd (true≢false (sym e))
  sends-bundled signers payload (some a) h e =
      let t = sends-this-result (quorum_of s) signers payload u a r e in
      subst₂ (λ (x : ℕ) (p : List ℕ). Bundled s.shared.n slot.sender x p) t.3 t.4 (h.as_written t.0 t.1 t.2).1

  -- signing: what is sent is read back
  module _ (range : InRange s slot) (g : good (config_at s 0) ≡ true) (dated : s.shared.day < 2 ^ 32) where
    bundle-fields : (signers : ℕ) (payload : List ℕ) → Bundled s.shared.n slot.sender signers payload
        → ((header_in (slot_bundle slot signers payload)).signers ≡ signers) × (payload_in (slot_bundle slot signers payload) ≡ payload)
    unfolding config_at with_own
    bundle-fields signers payload b =
        let back = bundle-reads s slot range g dated 0 (good-says (config_at s 0) g).known signers payload b in
        let accepted = read-says (config_at s 0) (slot_bundle slot signers payload) (slot_header slot signers) back.0 in
        (ap (λ (k : Header). k.signers) accepted.fields, sym accepted.payload ∙ back.1)

    -- where an act sends, its call signs what the act's update has
    signs_of : (a : Act) → ActCall s slot u call records r a → (payload : List ℕ) (result : Update) → one-slot.outcome (quorum_of s) u a r ≡ done result
        → answers.sends result.answer ≡ true
        → signs s slot payload u call records ≡ (same (payload_of result.new_record) payload && member (signers_of result.new_record) u)
    unfolding signs sends_in one-slot.sends
    signs_of a h payload result f x =
        let (written, bundled) = h.as_written result f x in
        let (signers-back, payload-back) = bundle-fields (signers_of result.new_record) (payload_of result.new_record) bundled in
        let dated-there = subst (λ (d : ℕ). d < 2 ^ 32) (sym range.today) dated in
        let named : in_slot slot (out_after s u call records) ≡ true =
        ap (in_slot slot) written ∙ bundle-in-slot slot (slot_header slot (signers_of result.new_record)) (payload_of result.new_record) dated-there ∙ same-slot-self slot in
        let sent : sends s u call records ≡ true = h.as-sent ∙ rw f x in
        let signers-same : (header_in (out_after s u call records)).signers ≡ signers_of result.new_record = ap (λ (b : List ℕ). (header_in b).signers) written ∙ signers-back in
        let payload_same : payload_in (out_after s u call records) ≡ payload_of result.new_record = ap (λ (b : List ℕ). payload_in b) written ∙ payload-back in
        rw (sent, named, signers-same, payload_same)

    pub signs-forth : (payload : List ℕ) (m : Option Act) → MatchesAct s slot u call records r m → signs s slot payload u call records ≡ true
        → act_passes s slot (one-slot.signs (quorum_of s) payload) u m r ≡ true
    unfolding signs one-slot.signs
    signs-forth payload none h e = not-both ((and-eq-true_iff (sends_in s slot u call records) _).0 e).0 h.unsent
    signs-forth payload (some a) h e =
        let (result, f, x) = sends-result (quorum_of s) u a r (sends-forth (some a) h ((and-eq-true_iff (sends_in s slot u call records) _).0 e).0) in
        rw (f, x) (sym (signs_of a h payload result f x) ∙ e)

    pub signs-back : (payload : List ℕ) (m : Option Act) → MatchesAct s slot u call records r m
        → act_passes s slot (one-slot.signs (quorum_of s) payload) u m r ≡ true → signs s slot payload u call records ≡ true
    unfolding one-slot.signs
    signs-back payload none h e = absurd (true≢false (sym e))
    signs-back payload (some a) h e = go (one-slot.outcome (quorum_of s) u a r) refl e
      where
        go : (o : Outcome Update) → one-slot.outcome (quorum_of s) u a r ≡ o
            → after o (λ result. answers.sends result.answer && (same (payload_of result.new_record) payload && member (signers_of result.new_record) u)) false ≡ true
            → signs s slot payload u call records ≡ true
        go (refused number) f x = absurd (true≢false (sym x))
        go (done result) f x =
            let (sent, this) = (and-eq-true_iff (answers.sends result.answer) _).0 x in
            signs_of a h payload result f sent ∙ this

  -- delivering by a bundle that has a quorum by itself
  pub at-once-back : (payload : List ℕ) (m : Option Act) → MatchesAct s slot u call records r m
      → act_passes s slot (differences.delivers_at_once (quorum_of s) payload) u m r ≡ true → delivers_at_once s slot payload u call records ≡ true
  at-once-back payload none h e = absurd (true≢false (sym e))
  at-once-back payload (some a) h e = h.as-delivered-at-once payload ∙ e
