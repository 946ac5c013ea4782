-- Why each call refuses, in the order of its checks, and what it does where no reason applies.
-- Assumes nothing.
use mathlib.Core.Path.{◌≡◌, refl, sym, ap, ◌∙◌}
use mathlib.Core.Bool.{Bool, true, false, cond, not, or-false}
use mathlib.Core.List.{List, [], ◌∷◌}
use Prim.Native.Nat.{ℕ, ◌+◌, ◌<◌, ◌≤◌}
use lib.Dec.{ltb}
use lib.ListN.{length, replicate}
use borrow.Author.Tests.{ltb-true, lt-ltb, le-ltb, eqb-true, eq-eqb, ne_eqb, not-true, not-false}
use Rattle.refusal.specs.Outcome.{Outcome, refused, done, ◌if◌, checked, ◌and_then◌}
use Rattle.refusal.proofs.Reasons.{passed, failed, pass, stop, done-clear, clear-done, refused-asked, refused-clear}
use Rattle.config.specs.declared.Config.{Config}
use Rattle.config.specs.Config.{good, slots, in_range, place, records_size, quorum}
use Rattle.bundle.specs.declared.Header.{Header}
use Rattle.bundle.specs.Bundle.{bundle_of, read, bundle_size, payload_part, slot_of, slot_in}
use Rattle.protocol.specs.Update.{is_delivered, announced_by, sends, Update, update}
use Rattle.record.specs.Record.{encoding, decoded, well_formed, received, payload_at}
use Rattle.record.proofs.UpdateCases.{received-malformed, received-well-formed}
use Rattle.payload.specs.Payload.{payload_size}
use Rattle.config.proofs.Laws.{in-range}
use Rattle.config.specs.declared.Slot.{Slot}
use Rattle.calls.specs.Records.{record_at, stored, own_slot, wrong_size}
use Rattle.calls.specs.Open.{open_reasons, opened}
use Rattle.calls.specs.Broadcast.{search, announced_header, broadcast_reasons, broadcast, broadcast_records, broadcast_out}
use Rattle.calls.specs.Receive.{record_bundle, receive_reasons, receive, receive_records, receive_out, reported}
use Rattle.calls.specs.Showing.{delivered_reasons, delivered}

-- ---- opening

module _ (config : Config) (records : List ℕ) where
  pub opened-bad : good config ≡ false → opened config records ≡ refused 1
  unfolding opened open_reasons
  opened-bad g = stop 1 _ _ (failed g)

  pub opened-size : good config ≡ true → (length records ≡ records_size config → ⊥) → opened config records ≡ refused 20
  unfolding opened open_reasons
  opened-size g l = pass 1 _ _ (passed g) ∙ stop 20 _ _ (failed (ne_eqb _ _ l))

  pub opened-done : good config ≡ true → length records ≡ records_size config → opened config records ≡ done (replicate (length records) 0)
  unfolding opened open_reasons
  opened-done g l = clear-done (open_reasons config records) (replicate (length records) 0) (passed g, (passed (eq-eqb _ _ l), tt))

-- ---- broadcasting

module _ (config : Config) (payload records out : List ℕ) where
  -- a refusal says its number and changes no byte
  pub broadcast-no-effect : (number : ℕ) → broadcast config payload records out ≡ refused number
      → (refused number ≡ broadcast config payload records out)
      × ((records ≡ broadcast_records config payload records out) × (out ≡ broadcast_out config payload records out))
  unfolding broadcast_records broadcast_out
  broadcast-no-effect number e = (sym e, (rw e, rw e))

  -- and an announcement is stored and written
  pub broadcast-effect : (seq : ℕ) → broadcast config payload records out ≡ done seq
      → (stored config (own_slot config seq) (encoding (announced_by config.own payload)) records ≡ broadcast_records config payload records out)
      × (bundle_of (announced_header config seq) payload ≡ broadcast_out config payload records out)
  unfolding broadcast_records broadcast_out
  broadcast-effect seq e = (rw e, rw e)

  abbrev searching : Outcome Unit → Outcome ℕ
  searching o = o and_then (λ _. search config records 0 slots)

  pub broadcast-bad : good config ≡ false → broadcast config payload records out ≡ refused 1
  unfolding broadcast broadcast_reasons
  broadcast-bad g = ap searching (stop 1 _ _ (failed g))

  module _ (g : good config ≡ true) where
    pub broadcast-payload : (length payload ≡ payload_size → ⊥) → broadcast config payload records out ≡ refused 9
    unfolding broadcast broadcast_reasons
    broadcast-payload l = ap searching (pass 1 _ _ (passed g) ∙ stop 9 _ _ (failed (ne_eqb _ _ l)))

    module _ (l : length payload ≡ payload_size) where
      pub broadcast-out : (length out ≡ bundle_size → ⊥) → broadcast config payload records out ≡ refused 10
      unfolding broadcast broadcast_reasons
      broadcast-out o = ap searching (pass 1 _ _ (passed g) ∙ pass 9 _ _ (passed (eq-eqb _ _ l)) ∙ stop 10 _ _ (failed (ne_eqb _ _ o)))

      module _ (o : length out ≡ bundle_size) where
        pub broadcast-size : (length records ≡ records_size config → ⊥) → broadcast config payload records out ≡ refused 20
        unfolding broadcast broadcast_reasons
        broadcast-size r =
            ap searching
            (pass 1 _ _ (passed g) ∙ pass 9 _ _ (passed (eq-eqb _ _ l)) ∙ pass 10 _ _ (passed (eq-eqb _ _ o)) ∙ stop 20 _ _ (failed (ne_eqb _ _ r)))

        -- the search decides
        pub broadcast-searched : length records ≡ records_size config → broadcast config payload records out ≡ search config records 0 slots
        unfolding broadcast broadcast_reasons
        broadcast-searched r =
            ap searching
            (clear-done (broadcast_reasons config payload records out) tt
            (passed g, (passed (eq-eqb _ _ l), (passed (eq-eqb _ _ o), (passed (eq-eqb _ _ r), tt)))))

-- ---- receiving

module _ (config : Config) (bundle records out : List ℕ) where
  -- a refusal says its number and changes no byte
  pub receive-no-effect : (number : ℕ) → receive config bundle records out ≡ refused number
      → (refused number ≡ (receive config bundle records out and_then λ result. done (reported result)))
      × ((records ≡ receive_records config bundle records out) × (out ≡ receive_out config bundle records out))
  unfolding receive_records receive_out
  receive-no-effect number e = (rw e, (rw e, rw e))

  -- and an update leaves its record, and its bundle if it sends
  pub receive-left : (result : Update) → receive config bundle records out ≡ done result
      → (receive_records config bundle records out ≡ stored config (slot_in bundle) (encoding result.new_record) records)
      × (receive_out config bundle records out ≡ cond (sends result.answer) (record_bundle (slot_in bundle) result.new_record) out)
  unfolding receive_records receive_out
  receive-left result e = (rw e, rw e)

  pub receive-unread : (number : ℕ) → read config bundle ≡ refused number → receive config bundle records out ≡ refused number
  unfolding receive
  receive-unread number e = rw e

  module _ (h : Header) (e : read config bundle ≡ done h) where
    abbrev taking : Outcome Unit → Outcome Update
    taking o = o and_then (λ _. update config.own (quorum config) h.signers (payload_part config bundle) (decoded (record_at config (slot_of h) records)))

    -- what is left to check after an accepted bundle
    rest : receive config bundle records out ≡ taking (checked (receive_reasons config bundle records out h))
    unfolding receive
    rest = rw e

    pub receive-out : (length out ≡ bundle_size → ⊥) → receive config bundle records out ≡ refused 10
    unfolding receive_reasons
    receive-out o = rest ∙ ap taking (stop 10 _ _ (failed (ne_eqb _ _ o)))

    module _ (o : length out ≡ bundle_size) where
      pub receive-size : (length records ≡ records_size config → ⊥) → receive config bundle records out ≡ refused 20
      unfolding receive_reasons
      receive-size r = rest ∙ ap taking (pass 10 _ _ (passed (eq-eqb _ _ o)) ∙ stop 20 _ _ (failed (ne_eqb _ _ r)))

      module _ (r : length records ≡ records_size config) where
        pub receive-malformed : well_formed config h.sender (record_at config (slot_of h) records) ≡ false → receive config bundle records out ≡ refused 21
        unfolding receive_reasons
        receive-malformed f =
            rest ∙ ap taking (pass 10 _ _ (passed (eq-eqb _ _ o)) ∙ pass 20 _ _ (passed (eq-eqb _ _ r)) ∙ stop 21 _ _ (failed f))

        -- the update decides
        pub receive-updated : well_formed config h.sender (record_at config (slot_of h) records) ≡ true
            → receive config bundle records out
            ≡ update config.own (quorum config) h.signers (payload_part config bundle) (decoded (record_at config (slot_of h) records))
        unfolding receive_reasons
        receive-updated f =
            rest
            ∙ ap taking
            (clear-done (receive_reasons config bundle records out h) tt (passed (eq-eqb _ _ o), (passed (eq-eqb _ _ r), (passed f, tt))))

        -- receiving is what the record makes of the bundle
        pub receive-recorded : receive config bundle records out ≡ received config h.sender h.signers (payload_part config bundle) (record_at config (slot_of h) records)
        receive-recorded = go (well_formed config h.sender (record_at config (slot_of h) records)) refl
          where
            go : (b : Bool) → well_formed config h.sender (record_at config (slot_of h) records) ≡ b
                → receive config bundle records out ≡ received config h.sender h.signers (payload_part config bundle) (record_at config (slot_of h) records)
            go true f = receive-updated f ∙ sym (received-well-formed config h.sender h.signers (payload_part config bundle) (record_at config (slot_of h) records) f)
            go false f = receive-malformed f ∙ sym (received-malformed config h.sender h.signers (payload_part config bundle) (record_at config (slot_of h) records) f)

-- ---- showing

module _ (config : Config) (slot : Slot) (records : List ℕ) where
  pub delivered-bad : good config ≡ false → delivered config slot records ≡ refused 1
  unfolding delivered delivered_reasons
  delivered-bad g = stop 1 _ _ (failed g)

  module _ (g : good config ≡ true) where
    pub delivered-sender : config.n ≤ slot.sender → delivered config slot records ≡ refused 5
    unfolding delivered delivered_reasons
    delivered-sender s = pass 1 _ _ (passed g) ∙ stop 5 _ _ (failed (le-ltb _ _ s))

    module _ (s : slot.sender < config.n) where
      pub delivered-seq : slots ≤ slot.seq → delivered config slot records ≡ refused 6
      unfolding delivered delivered_reasons
      delivered-seq k = pass 1 _ _ (passed g) ∙ pass 5 _ _ (passed (lt-ltb _ _ s)) ∙ stop 6 _ _ (failed (le-ltb _ _ k))

      module _ (k : slot.seq < slots) where
        pub delivered-size : (length records ≡ records_size config → ⊥) → delivered config slot records ≡ refused 20
        unfolding delivered delivered_reasons
        delivered-size r =
            pass 1 _ _ (passed g) ∙ pass 5 _ _ (passed (lt-ltb _ _ s)) ∙ pass 6 _ _ (passed (lt-ltb _ _ k)) ∙ stop 20 _ _ (failed (ne_eqb _ _ r))

        module _ (r : length records ≡ records_size config) where
          pub delivered-malformed : well_formed config slot.sender (record_at config slot records) ≡ false → delivered config slot records ≡ refused 21
          unfolding delivered delivered_reasons
          delivered-malformed f =
              pass 1 _ _ (passed g)
              ∙ pass 5 _ _ (passed (lt-ltb _ _ s))
              ∙ pass 6 _ _ (passed (lt-ltb _ _ k))
              ∙ pass 20 _ _ (passed (eq-eqb _ _ r))
              ∙ stop 21 _ _ (failed f)

          module _ (f : well_formed config slot.sender (record_at config slot records) ≡ true) where
            pub delivered-not : is_delivered (decoded (record_at config slot records)) ≡ false → delivered config slot records ≡ refused 26
            unfolding delivered delivered_reasons
            delivered-not x =
                pass 1 _ _ (passed g)
                ∙ pass 5 _ _ (passed (lt-ltb _ _ s))
                ∙ pass 6 _ _ (passed (lt-ltb _ _ k))
                ∙ pass 20 _ _ (passed (eq-eqb _ _ r))
                ∙ pass 21 _ _ (passed f)
                ∙ stop 26 _ _ (failed x)

            pub delivered-done : is_delivered (decoded (record_at config slot records)) ≡ true
                → delivered config slot records ≡ done (place config slot + payload_at)
            unfolding delivered delivered_reasons
            delivered-done x =
                clear-done (delivered_reasons config slot records) (place config slot + payload_at)
                (passed g, (passed (lt-ltb _ _ s), (passed (lt-ltb _ _ k), (passed (eq-eqb _ _ r), (passed f, (passed x, tt))))))

  -- what is shown is a record within the buffer
  pub delivered-says : (start : ℕ) → delivered config slot records ≡ done start
      → (good config ≡ true) × (in_range config slot ≡ true) × (length records ≡ records_size config)
  unfolding delivered delivered_reasons
  delivered-says start e =
      let clear = (done-clear (delivered_reasons config slot records) (place config slot + payload_at) start e).0 in (
        not-false _ clear.0,
        in-range config slot (ltb-true _ _ (not-false _ clear.1.0)) (ltb-true _ _ (not-false _ clear.1.1.0)),
        eqb-true _ _ (not-false _ clear.1.1.1.0),
      )

  -- and it is delivered
  pub delivered-record : (start : ℕ) → delivered config slot records ≡ done start → is_delivered (decoded (record_at config slot records)) ≡ true
  unfolding delivered delivered_reasons
  delivered-record start e =
      not-false _ (done-clear (delivered_reasons config slot records) (place config slot + payload_at) start e).0.1.1.1.1.1.0

  -- a slot that is refused by 21 is in range, and its record is malformed
  pub delivered-malformed-says : delivered config slot records ≡ refused 21
      → (in_range config slot ≡ true) × (well_formed config slot.sender (record_at config slot records) ≡ false)
  unfolding delivered delivered_reasons
  delivered-malformed-says e =
      let clear =
      refused-clear 21
      ((1 if not (good config)) ∷ (5 if not (ltb slot.sender config.n)) ∷ (6 if not (ltb slot.seq slots)) ∷ [])
      ((20 if wrong_size config records)
      ∷ (21 if not (well_formed config slot.sender (record_at config slot records)))
      ∷ (26 if not (is_delivered (decoded (record_at config slot records))))
      ∷ [])
      (place config slot + payload_at) refl e in (
        in-range config slot (ltb-true _ _ (not-false _ clear.1.0)) (ltb-true _ _ (not-false _ clear.1.1.0)),
        not-true _ (sym (or-false _) ∙ refused-asked (delivered_reasons config slot records) (place config slot + payload_at) 21 e),
      )
