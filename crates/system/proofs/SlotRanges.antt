-- A slot in which a call delivers, sends or announces is in range: it is of the system's day, its sender is a node, and its number is one of the
-- sixteen. Where a call announces, the slot is its own node's.
-- Assumes nothing.
use mathlib.Core.Path.{◌≡◌, refl, sym, ap, ◌∙◌, subst}
use mathlib.Core.Bool.{Bool, true, false, cond, ◌&&◌, true≢false, and-eq-true_iff}
use mathlib.Core.List.{List}
use Prim.Native.Nat.{ℕ, ◌<◌, ◌^◌}
use Rattle.refusal.specs.Outcome.{Outcome, refused, done, after}
use Rattle.refusal.proofs.Reasons.{refused-not-done}
use Rattle.config.specs.declared.Slot.{Slot}
use Rattle.config.specs.Config.{with_own, slot_of_day, same_slot}
use Rattle.config.proofs.Laws.{same-slot-says}
use Rattle.bundle.specs.declared.Header.{Header}
use Rattle.bundle.specs.Bundle.{bundle_of, slot_in, header_in, read, slot_of}
use Rattle.protocol.specs.Update as answers
use Rattle.protocol.specs.Update.{Update, signers_of, payload_of}
use Rattle.calls.specs.Records.{own_slot}
use Rattle.calls.specs.Broadcast.{announced_header, broadcast, broadcast_out}
use Rattle.calls.specs.Receive.{record_bundle, receive, receive_out}
use Rattle.calls.proofs.LowestFree.{broadcast-done}
use Rattle.calls.proofs.ReceiveFacts.{read-says}
use Rattle.calls.proofs.Refusals.{receive-unread}
use Rattle.system.specs.Demand3.{Call, Open, Broadcast, Receive, System, config_at, in_slot, out_after, announces_in, delivers_in, sends, sends_in}
use Rattle.system.proofs.CommonConfig.{InRange, range-from, slot_header, bundle-in-slot}

-- a slot that is the same as one in range is in range
same-range : (s : System) (first second : Slot) → InRange s first → same_slot first second ≡ true → InRange s second
same-range s first second range e = subst (λ (k : Slot). InRange s k) (same-slot-says first second e) range

module _ (s : System) (u : ℕ) where
  -- a bundle that is read names a slot in range,
  pub read-range : (bundle : List ℕ) (h : Header) → read (config_at s u) bundle ≡ done h → InRange s (slot_in bundle)
  read-range bundle h e =
      let accepted = read-says (config_at s u) bundle h e in
      subst (λ (k : Slot). InRange s k) (sym accepted.slot-named) (range-from s (slot_of h) u accepted.today accepted.range)

  received-range : (bundle records out : List ℕ) (result : Update) → receive (config_at s u) bundle records out ≡ done result → InRange s (slot_in bundle)
  received-range bundle records out result f = go (read (config_at s u) bundle) refl
    where
      go : (o : Outcome Header) → read (config_at s u) bundle ≡ o → InRange s (slot_in bundle)
      go (refused number) e = absurd (refused-not-done number result (sym (receive-unread (config_at s u) bundle records out number e) ∙ f))
      go (done h) e = read-range bundle h e

  -- and a broadcast that is done is in one
  pub broadcast-range : (payload records out : List ℕ) (seq : ℕ) → broadcast (config_at s u) payload records out ≡ done seq → InRange s (own_slot (config_at s u) seq)
  unfolding slot_of_day
  broadcast-range payload records out seq e =
      range-from s (own_slot (config_at s u) seq) u refl (broadcast-done (config_at s u) payload records out seq e).range

  module _ (slot : Slot) where
    pub delivers-range : (call : Call) (records : List ℕ) → delivers_in s slot u call records ≡ true → InRange s slot
    unfolding delivers_in in_slot header_in
    delivers-range Open records e = absurd (true≢false (sym e))
    delivers-range (Broadcast payload out) records e = absurd (true≢false (sym e))
    delivers-range (Receive bundle out) records e = go (receive (config_at s u) bundle records out) refl e
      where
        go : (o : Outcome Update) → receive (config_at s u) bundle records out ≡ o
            → after o (λ result. answers.delivers result.answer && same_slot (slot_in bundle) slot) false ≡ true → InRange s slot
        go (refused number) f x = absurd (true≢false (sym x))
        go (done result) f x =
            same-range s (slot_in bundle) slot (received-range bundle records out result f)
            ((and-eq-true_iff (answers.delivers result.answer) (same_slot (slot_in bundle) slot)).0 x).1

    -- where a call announces, the slot is in range and the node is its sender
    pub announces-range : (call : Call) (records : List ℕ) → announces_in s slot u call records ≡ true → InRange s slot × (u ≡ slot.sender)
    unfolding announces_in slot_of_day config_at with_own
    announces-range Open records e = absurd (true≢false (sym e))
    announces-range (Broadcast given out) records e = go (broadcast (config_at s u) given records out) refl e
      where
        go : (o : Outcome ℕ) → broadcast (config_at s u) given records out ≡ o → after o (λ seq. same_slot (own_slot (config_at s u) seq) slot) false ≡ true
            → InRange s slot × (u ≡ slot.sender)
        go (refused number) f x = absurd (true≢false (sym x))
        go (done seq) f x = (
          same-range s (own_slot (config_at s u) seq) slot (broadcast-range given records out seq f) x,
          ap (λ (k : Slot). k.sender) (same-slot-says (own_slot (config_at s u) seq) slot x),
        )
    announces-range (Receive bundle out) records e = absurd (true≢false (sym e))

    module _ (dated : s.shared.day < 2 ^ 32) where
      -- a bundle put together for a slot in range
      written-range : (h : Header) (payload : List ℕ) → InRange s (slot_of h) → in_slot slot (bundle_of h payload) ≡ true → InRange s slot
      written-range h payload range x =
          same-range s (slot_of h) slot range (sym (bundle-in-slot slot h payload (subst (λ (d : ℕ). d < 2 ^ 32) (sym range.today) dated)) ∙ x)

      pub sends-range : (call : Call) (records : List ℕ) → sends_in s slot u call records ≡ true → InRange s slot
      unfolding sends_in sends out_after broadcast_out receive_out record_bundle
      sends-range Open records e = absurd (true≢false (sym e))
      sends-range (Broadcast given out) records e = go (broadcast (config_at s u) given records out) refl e
        where
          go : (o : Outcome ℕ) → broadcast (config_at s u) given records out ≡ o
              → (after o (λ seq. true) false && in_slot slot (after o (λ seq. bundle_of (announced_header (config_at s u) seq) given) out)) ≡ true
              → InRange s slot
          go (refused number) f x = absurd (true≢false (sym x))
          go (done seq) f x = written-range (announced_header (config_at s u) seq) given (broadcast-range given records out seq f) x
      sends-range (Receive bundle out) records e = go (receive (config_at s u) bundle records out) refl e
        where
          pick : (result : Update) → receive (config_at s u) bundle records out ≡ done result → (b : Bool)
              → (b && in_slot slot (cond b (record_bundle (slot_in bundle) result.new_record) out)) ≡ true → InRange s slot
          pick result f true x =
              written-range (slot_header (slot_in bundle) (signers_of result.new_record)) (payload_of result.new_record)
              (received-range bundle records out result f) x
          pick result f false x = absurd (true≢false (sym x))

          go : (o : Outcome Update) → receive (config_at s u) bundle records out ≡ o
              → (after o (λ result. answers.sends result.answer) false && in_slot slot
              (after o (λ result. cond (answers.sends result.answer) (record_bundle (slot_in bundle) result.new_record) out) out))
              ≡ true → InRange s slot
          go (refused number) f x = absurd (true≢false (sym x))
          go (done result) f x = pick result f (answers.sends result.answer) x
