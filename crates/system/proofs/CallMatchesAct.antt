-- One call at a node, beside its act in one slot: the slot's bytes are the record's, and the call does in the slot what the act does. From the
-- cases of proofs/CallInSlot.antt, and the laws of records, bundles and calls.
-- Assumes nothing.
use mathlib.Core.Path.{◌≡◌, refl, sym, ap, ap₂, ◌∙◌, subst}
use mathlib.Core.Option.{Option, none, some}
use mathlib.Core.Bool.{Bool, true, false, cond, not, ◌&&◌, true≢false, and-false, and-true, and-eq-true_iff}
use mathlib.Core.List.{List, [], ◌∷◌}
use Prim.Native.Nat.{ℕ, ◌≤◌, ◌<◌, ◌^◌}
use lib.Dec.{eqb, leb}
use lib.ListN.{length, replicate, length-replicate}
use borrow.Author.Tests.{eq-eqb, eqb-false}
use Rattle.octets.specs.Octets.{same, blank}
use Rattle.octets.proofs.Same.{same-says, same_self}
use Rattle.signers.specs.Signers.{insert, size}
use Rattle.refusal.specs.Outcome.{Outcome, refused, done, ◌if◌, after}
use Rattle.refusal.proofs.Reasons.{clear-done, refused-not-done}
use Rattle.payload.specs.Payload.{payload_size}
use Rattle.config.specs.declared.Slot.{Slot}
use Rattle.config.specs.Config.{with_own, good, slot_of_day, same_slot, record_size, records_size}
use Rattle.config.proofs.Laws.{good-says, same-slot-self}
use Rattle.bundle.specs.declared.Header.{Header}
use Rattle.bundle.specs.Bundle.{bundle_size, header_in, payload_in, read, payload_part, slot_of, slot_in}
use Rattle.protocol.specs.Update as answers
use Rattle.protocol.specs.Update.{Record, Empty, Update, signers_of, payload_of, is_empty, announced, announced_by, update}
use Rattle.protocol.specs.OneSlot as one-slot
use Rattle.protocol.specs.OneSlot.{Act}
use Rattle.protocol.specs.Differences as differences
use Rattle.protocol.proofs.WellFormed.{Bundled, WellFormed, well-formed-bundled, announced-well-formed, update-well-formed}
use Rattle.protocol.proofs.UpdateCases.{update-filled, update-payload, delivers-sends}
use Rattle.calls.proofs.Settling.{result-well-formed as stored-well-formed}
use Rattle.record.specs.Record.{encoding, well_formed}
use Rattle.record.proofs.Encoding.{encoding-length, empty-encoding, blank-encoding, encoding-well-formed, decoded-encoding}
use Rattle.calls.specs.Records.{own_slot, record_at, stored}
use Rattle.calls.specs.Open.{open_records}
use Rattle.calls.specs.Broadcast.{announced_header, broadcast, broadcast_records, broadcast_out}
use Rattle.calls.specs.Receive.{record_bundle, receive, receive_records, receive_out}
use Rattle.calls.proofs.Records.{stored-length, stored_there, stored-elsewhere, zeros-at}
use Rattle.calls.proofs.LowestFree.{Announced, broadcast-done}
use Rattle.calls.proofs.ReceiveFacts.{Read, read-says, receive-updates, receive-done}
use Rattle.calls.proofs.Refusals.{receive-unread}
use Rattle.system.specs.Demand3.{Call, Open, Broadcast, Receive, System, config_at, in_slot, records_after, out_after, announces_in, announces, delivers_in, delivers, sends, sends_in, reaches}
use Rattle.system.specs.Differences.{delivers_at_once}
use Rattle.system.proofs.CallInSlot.{CallCase, opening, broadcast-here, broadcast-elsewhere, broadcast-refused, received-here, received-elsewhere, received-no-room, received-unread}
use Rattle.system.proofs.SlotRanges.{read-range, broadcast-range}
use Rattle.system.proofs.CommonConfig.{quorum_of, config-good, config-quorum, InRange, range_at, slots_apart, slot_header, slot_bundle, bundle-in-slot, named-in-slot, bundle-reads}
use Rattle.system.proofs.Buffers.{open-zeros}

-- ---- what a node keeps of the slot

-- The buffer has its size, and the slot's bytes are those of the record, which is well-formed.
pub record HoldsRecord (s : System) (slot : Slot) (u : ℕ) (records : List ℕ) (r : Record) : Type 0 where
  pub sized : length records ≡ records_size (config_at s u)
  pub held : record_at (config_at s u) slot records ≡ encoding r
  pub well-formed : WellFormed s.shared.n slot.sender (quorum_of s) u r

-- What a call finds. An opening finds a buffer of the right size, and nothing was done in the slot before it.
abbrev pub FindsRecord : (s : System) (slot : Slot) (node : ℕ) (call : Call) (records : List ℕ) (r : Record) → Type 0
FindsRecord s slot u Open records r = (length records ≡ records_size (config_at s u)) × (r ≡ Empty)
FindsRecord s slot u (Broadcast payload out) records r = HoldsRecord s slot u records r
FindsRecord s slot u (Receive bundle out) records r = HoldsRecord s slot u records r

-- a call that comes to no act in the slot: it does nothing there, and leaves the record as it was
pub record NoActCall (s : System) (slot : Slot) (u : ℕ) (call : Call) (records : List ℕ) (r : Record) : Type 0 where
  pub undelivered : delivers_in s slot u call records ≡ false
  pub unsent : sends_in s slot u call records ≡ false
  pub unannounced : announces_in s slot u call records ≡ false
  pub unreached : (signers : ℕ) (payload : List ℕ) → Bundled s.shared.n slot.sender signers payload
      → reaches s (slot_bundle slot signers payload) u call records ≡ true → ⊥
  pub left : HoldsRecord s slot u (records_after s u call records) r

-- a call that comes to an act: it does there what the act does
pub record ActCall (s : System) (slot : Slot) (u : ℕ) (call : Call) (records : List ℕ) (r : Record) (a : Act) : Type 0 where
  pub as-delivered : delivers_in s slot u call records ≡ one-slot.delivers (quorum_of s) u a r
  pub as-delivered-this : (payload : List ℕ) → delivers s slot payload u call records ≡ one-slot.delivers_this (quorum_of s) payload u a r
  pub as-delivered-at-once : (payload : List ℕ) → delivers_at_once s slot payload u call records ≡ differences.delivers_at_once (quorum_of s) payload u a r
  pub as-sent : sends s u call records ≡ one-slot.sends (quorum_of s) u a r
  pub as_written : (result : Update) → one-slot.outcome (quorum_of s) u a r ≡ done result → answers.sends result.answer ≡ true
      → (out_after s u call records ≡ slot_bundle slot (signers_of result.new_record) (payload_of result.new_record))
      × Bundled s.shared.n slot.sender (signers_of result.new_record) (payload_of result.new_record)
  pub as-announced : announces_in s slot u call records ≡ one-slot.broadcasts (quorum_of s) u a r
  pub as-announced-this : (payload : List ℕ) → announces s slot payload u call records ≡ one-slot.broadcasts_this (quorum_of s) payload u a r
  pub as-reached : (signers : ℕ) (payload : List ℕ) → Bundled s.shared.n slot.sender signers payload
      → reaches s (slot_bundle slot signers payload) u call records ≡ true → one-slot.receives (quorum_of s) signers payload u a r ≡ true
  pub left : HoldsRecord s slot u (records_after s u call records) (one-slot.record_after (quorum_of s) u a r)

abbrev pub MatchesAct : (s : System) (slot : Slot) (node : ℕ) (call : Call) (records : List ℕ) (r : Record) (act : Option Act) → Type 0
MatchesAct s slot u call records r none = NoActCall s slot u call records r
MatchesAct s slot u call records r (some a) = ActCall s slot u call records r a

-- ---- a broadcast on an empty record: what it leaves and sends

announced-length : (n q u : ℕ) (payload : List ℕ) → u < n → n ≤ 64 → length payload ≡ payload_size → length (encoding (announced_by u payload)) ≡ record_size
announced-length n q u payload l most whole = encoding-length n u q u (announced_by u payload) (announced-well-formed n q u payload l most whole)

broadcast-outcome : (q u : ℕ) (payload : List ℕ) (r : Record) → is_empty r ≡ true
    → one-slot.outcome q u (one-slot.Broadcast payload) r ≡ done (record { answer = announced; new_record = announced_by u payload })
unfolding one-slot.outcome
broadcast-outcome q u payload r e = clear-done ((25 if not (is_empty r)) ∷ []) (record { answer = announced; new_record = announced_by u payload }) (ap not e, tt)

announced-bundle : (slot : Slot) (u : ℕ) (payload : List ℕ)
    → slot_bundle slot (insert 0 u) payload ≡ slot_bundle slot (signers_of (announced_by u payload)) (payload_of (announced_by u payload))
unfolding announced_by
announced-bundle slot u payload = refl

announced-bundled : (n u : ℕ) (payload : List ℕ) (q : ℕ) → WellFormed n u q u (announced_by u payload)
    → Bundled n u (signers_of (announced_by u payload)) (payload_of (announced_by u payload))
unfolding announced_by
announced-bundled n u payload q h = h.0

done-same : {A : Type 0} (a b : A) → done a ≡ done b → a ≡ b
done-same a b e = cc

-- ---- the calls one by one

module _ (s : System) (g : good (config_at s 0) ≡ true) (dated : s.shared.day < 2 ^ 32) (u : ℕ) (l : u < s.shared.n) where
  good-here : good (config_at s u) ≡ true
  good-here = config-good s u g l

  most : s.shared.n ≤ 64
  unfolding config_at with_own
  most = (good-says (config_at s 0) g).most

  dated-in : (slot : Slot) → InRange s slot → slot.day < 2 ^ 32
  dated-in slot range = subst (λ (d : ℕ). d < 2 ^ 32) (sym range.today) dated

  module _ (slot : Slot) (range : InRange s slot) where
    -- storing another slot's record leaves this one's bytes; storing this slot's puts them there
    module _ (records : List ℕ) where
      stores-elsewhere : (other : Slot) (r t : Record) → InRange s other → same_slot other slot ≡ false → length (encoding t) ≡ record_size
          → HoldsRecord s slot u records r → HoldsRecord s slot u (stored (config_at s u) other (encoding t) records) r
      stores-elsewhere other r t within apart long holds =
          record {
            sized = stored-length (config_at s u) good-here records holds.sized other (range_at s other u within) (encoding t) long ∙ holds.sized;
            held =
                stored-elsewhere (config_at s u) good-here records holds.sized other (range_at s other u within) (encoding t) long slot (range_at s slot u range)
                (λ e f. slots_apart other slot (within.today ∙ sym range.today) apart (sym e) (sym f))
                ∙ holds.held;
            well-formed = holds.well-formed;
          }

      stores-here : (t : Record) → length (encoding t) ≡ record_size → length records ≡ records_size (config_at s u)
          → WellFormed s.shared.n slot.sender (quorum_of s) u t → HoldsRecord s slot u (stored (config_at s u) slot (encoding t) records) t
      stores-here t long sized fine =
          record {
            sized = stored-length (config_at s u) good-here records sized slot (range_at s slot u range) (encoding t) long ∙ sized;
            held = stored_there (config_at s u) good-here records sized slot (range_at s slot u range) (encoding t) long;
            well-formed = fine;
          }

    -- opening
    open-match : (records : List ℕ) (r : Record) → length records ≡ records_size (config_at s u) → r ≡ Empty → NoActCall s slot u Open records r
    unfolding delivers_in sends_in sends announces_in reaches records_after
    open-match records r sized e =
        record {
          undelivered = refl;
          unsent = refl;
          unannounced = refl;
          unreached = λ signers payload b x. true≢false (sym x);
          left = opened-holds;
        }
      where
        zeros : open_records (config_at s u) records ≡ replicate (records_size (config_at s u)) 0
        zeros = open-zeros (config_at s u) records good-here sized

        opened-holds : HoldsRecord s slot u (open_records (config_at s u) records) r
        opened-holds =
            record {
              sized = ap length zeros ∙ length-replicate {A = ℕ} (records_size (config_at s u)) 0;
              held = ap (record_at (config_at s u) slot) zeros ∙ zeros-at (config_at s u) slot good-here (range_at s slot u range) ∙ empty-encoding ∙ ap encoding (sym e);
              well-formed = subst (WellFormed s.shared.n slot.sender (quorum_of s) u) (sym e) tt;
            }

    -- a broadcast that is refused
    refused-broadcast : (payload out records : List ℕ) (r : Record) (number : ℕ) → broadcast (config_at s u) payload records out ≡ refused number
        → HoldsRecord s slot u records r → NoActCall s slot u (Broadcast payload out) records r
    unfolding delivers_in sends_in sends announces_in reaches records_after broadcast_records
    refused-broadcast payload out records r number e holds =
        record {
          undelivered = refl;
          unsent = rw e;
          unannounced = rw e;
          unreached = λ signers first b x. true≢false (sym x);
          left = rw e holds;
        }

    -- a broadcast in another slot
    broadcast-other : (payload out records : List ℕ) (r : Record) (seq : ℕ) → broadcast (config_at s u) payload records out ≡ done seq
        → same_slot (own_slot (config_at s u) seq) slot ≡ false → HoldsRecord s slot u records r → NoActCall s slot u (Broadcast payload out) records r
    unfolding delivers_in sends_in sends out_after announces_in reaches records_after broadcast_records broadcast_out config_at with_own
    broadcast-other payload out records r seq e other holds =
        record {
          undelivered = refl;
          unsent = rw e (bundle-in-slot slot (announced_header (config_at s u) seq) payload (dated-in (own_slot (config_at s u) seq) within) ∙ other);
          unannounced = rw e other;
          unreached = λ signers first b x. true≢false (sym x);
          left = rw e (stores-elsewhere records (own_slot (config_at s u) seq) r (announced_by u payload) within other long holds);
        }
      where
        within : InRange s (own_slot (config_at s u) seq)
        within = broadcast-range s u payload records out seq e

        long : length (encoding (announced_by u payload)) ≡ record_size
        long = announced-length s.shared.n (quorum_of s) u payload l most (broadcast-done (config_at s u) payload records out seq e).whole

  -- a broadcast in this slot, which is then the node's own
  broadcast-own : (payload out records : List ℕ) (r : Record) (seq : ℕ) → broadcast (config_at s u) payload records out ≡ done seq
      → HoldsRecord s (own_slot (config_at s u) seq) u records r
      → ActCall s (own_slot (config_at s u) seq) u (Broadcast payload out) records r (one-slot.Broadcast payload)
  unfolding delivers_in delivers delivers_at_once sends out_after announces_in announces reaches records_after broadcast_records broadcast_out slot_of_day config_at with_own one-slot.delivers one-slot.delivers_this
      differences.delivers_at_once differences.brings_quorum
      one-slot.sends one-slot.broadcasts one-slot.broadcasts_this one-slot.record_after
  broadcast-own payload out records r seq e holds =
      record {
        as-delivered = rw outcome;
        as-delivered-this = λ first. rw outcome;
        as-delivered-at-once = λ first. rw outcome;
        as-sent = rw (e, outcome);
        as_written = λ result f x. written result f;
        as-announced = rw (e, empty, same-slot-self (own_slot (config_at s u) seq));
        as-announced-this = λ first. rw (e, empty, same-slot-self (own_slot (config_at s u) seq));
        as-reached = λ signers first b x. absurd (true≢false (sym x));
        left =
            rw (e, outcome)
            (stores-here (own_slot (config_at s u) seq) (broadcast-range s u payload records out seq e) records (announced_by u payload) long holds.sized fine);
      }
    where
      done-here : Announced (config_at s u) payload records out seq
      done-here = broadcast-done (config_at s u) payload records out seq e

      long : length (encoding (announced_by u payload)) ≡ record_size
      long = announced-length s.shared.n (quorum_of s) u payload l most done-here.whole

      empty : is_empty r ≡ true
      empty = sym (blank-encoding r) ∙ ap blank (sym holds.held) ∙ done-here.free

      outcome : one-slot.outcome (quorum_of s) u (one-slot.Broadcast payload) r ≡ done (record { answer = announced; new_record = announced_by u payload })
      outcome = broadcast-outcome (quorum_of s) u payload r empty

      fine : WellFormed s.shared.n u (quorum_of s) u (announced_by u payload)
      fine = announced-well-formed s.shared.n (quorum_of s) u payload l most done-here.whole

      written : (result : Update) → one-slot.outcome (quorum_of s) u (one-slot.Broadcast payload) r ≡ done result
          → (broadcast_out (config_at s u) payload records out ≡ slot_bundle (own_slot (config_at s u) seq) (signers_of result.new_record) (payload_of result.new_record))
          × Bundled s.shared.n u (signers_of result.new_record) (payload_of result.new_record)
      written result f =
          let same : record { answer = announced; new_record = announced_by u payload } ≡ result = done-same _ result (sym outcome ∙ f) in
          subst
          (λ (t : Update). (broadcast_out (config_at s u) payload records out ≡ slot_bundle (own_slot (config_at s u) seq) (signers_of t.new_record) (payload_of t.new_record))
          × Bundled s.shared.n u (signers_of t.new_record) (payload_of t.new_record))
          same
          (rw e (announced-bundle (own_slot (config_at s u) seq) u payload), announced-bundled s.shared.n u payload (quorum_of s) fine)

  module _ (slot : Slot) (range : InRange s slot) (bundle out records : List ℕ) where
    -- a bundle that a correct node could have sent in the slot, given with 32 outgoing bytes, is read as it was put together
    reached-read : (signers : ℕ) (payload : List ℕ) → Bundled s.shared.n slot.sender signers payload
        → reaches s (slot_bundle slot signers payload) u (Receive bundle out) records ≡ true
        → (read (config_at s u) bundle ≡ done (slot_header slot signers)) × (payload_part (config_at s u) bundle ≡ payload) × (eqb (length out) bundle_size ≡ true)
    unfolding reaches config_at with_own
    reached-read signers payload b x =
        let both = (and-eq-true_iff (same bundle (slot_bundle slot signers payload)) (eqb (length out) bundle_size)).0 x in
        let given : bundle ≡ slot_bundle slot signers payload = same-says bundle (slot_bundle slot signers payload) both.0 in
        let back = bundle-reads s slot range g dated u l signers payload b in
        (ap (read (config_at s u)) given ∙ back.0, ap (payload_part (config_at s u)) given ∙ back.1, both.1)

    module _ (r : Record) (holds : HoldsRecord s slot u records r) where
      -- a bundle that is refused, and is not one that a correct node could have sent in the slot
      refused-receive : (number : ℕ) → receive (config_at s u) bundle records out ≡ refused number
          → ((signers : ℕ) (payload : List ℕ) → Bundled s.shared.n slot.sender signers payload
          → reaches s (slot_bundle slot signers payload) u (Receive bundle out) records ≡ true → ⊥)
          → NoActCall s slot u (Receive bundle out) records r
      unfolding delivers_in sends_in sends announces_in records_after receive_records
      refused-receive number e unreached =
          record {
            undelivered = rw e;
            unsent = rw e;
            unannounced = refl;
            unreached = unreached;
            left = rw e holds;
          }

      -- a bundle that is not read
      unread-match : (number : ℕ) → read (config_at s u) bundle ≡ refused number → NoActCall s slot u (Receive bundle out) records r
      unread-match number e =
          refused-receive number (receive-unread (config_at s u) bundle records out number e)
          (λ signers payload b x. refused-not-done number (slot_header slot signers) (sym e ∙ (reached-read signers payload b x).0))

      module _ (h : Header) (e : read (config_at s u) bundle ≡ done h) where
        accepted : Read (config_at s u) bundle h
        accepted = read-says (config_at s u) bundle h e

        -- a bundle given with outgoing bytes of another length
        no-room-match : eqb (length out) bundle_size ≡ false → NoActCall s slot u (Receive bundle out) records r
        no-room-match short = go (receive (config_at s u) bundle records out) refl
          where
            go : (o : Outcome Update) → receive (config_at s u) bundle records out ≡ o → NoActCall s slot u (Receive bundle out) records r
            go (refused number) f = refused-receive number f (λ signers payload b x. true≢false (sym (reached-read signers payload b x).2 ∙ short))
            go (done result) f = absurd (eqb-false (length out) bundle_size short (receive-done (config_at s u) bundle records out h e result f).0)

        -- a bundle of another slot
        module _ (other : same_slot (slot_of h) slot ≡ false) where
          other-unreached : (signers : ℕ) (payload : List ℕ) → Bundled s.shared.n slot.sender signers payload
              → reaches s (slot_bundle slot signers payload) u (Receive bundle out) records ≡ true → ⊥
          other-unreached signers payload b x =
              let same = done-same h (slot_header slot signers) (sym e ∙ (reached-read signers payload b x).0) in
              true≢false (sym (same-slot-self slot) ∙ sym (ap (λ (k : Header). same_slot (slot_of k) slot) same) ∙ other)

          -- the bundle given and the bundle sent are in that slot, and the record stored there
          other-done : (result : Update) → receive (config_at s u) bundle records out ≡ done result → NoActCall s slot u (Receive bundle out) records r
          unfolding delivers_in sends_in sends in_slot out_after announces_in records_after receive_records receive_out record_bundle header_in
          other-done result f =
              record {
                undelivered = rw (f, named) (and-false (answers.delivers result.answer));
                unsent = rw f (sent (answers.sends result.answer));
                unannounced = refl;
                unreached = other-unreached;
                left = rw f (stores-elsewhere slot range records (slot_in bundle) r result.new_record within named long holds);
              }
            where
              named : same_slot (slot_in bundle) slot ≡ false
              named = subst (λ (k : Slot). same_slot k slot ≡ false) (sym accepted.slot-named) other

              within : InRange s (slot_in bundle)
              within = read-range s u bundle h e

              sent : (b : Bool) → (b && in_slot slot (cond b (record_bundle (slot_in bundle) result.new_record) out)) ≡ false
              sent true =
                  bundle-in-slot slot (slot_header (slot_in bundle) (signers_of result.new_record)) (payload_of result.new_record)
                  (dated-in (slot_in bundle) within)
                  ∙ named
              sent false = refl

              long : length (encoding result.new_record) ≡ record_size
              long =
                  let (out-room, sized, taken, formed) = receive-done (config_at s u) bundle records out h e result f in
                  let (filled, fine) = stored-well-formed (config_at s u) bundle records out h e sized formed (f ∙ sym taken) result f in
                  encoding-length _ _ _ _ result.new_record fine

          other-match : NoActCall s slot u (Receive bundle out) records r
          other-match = go (receive (config_at s u) bundle records out) refl
            where
              go : (o : Outcome Update) → receive (config_at s u) bundle records out ≡ o → NoActCall s slot u (Receive bundle out) records r
              go (refused number) f = refused-receive number f other-unreached
              go (done result) f = other-done result f

        -- a bundle of the slot
        module _ (here : slot_of h ≡ slot) (room : length out ≡ bundle_size) where
          -- what the act comes to
          abbrev receive-outcome : Outcome Update
          receive-outcome = one-slot.outcome (quorum_of s) u (one-slot.Receive h.signers (payload_part (config_at s u) bundle)) r

          -- the node receives it by the record that it holds
          receive_here : receive (config_at s u) bundle records out ≡ receive-outcome
          unfolding config_at with_own one-slot.outcome
          receive_here =
              let fine = subst (λ (q : ℕ). WellFormed s.shared.n slot.sender q u r) (sym (config-quorum s u g l)) holds.well-formed in
              receive-updates (config_at s u) bundle records out h e r room holds.sized
              (ap (λ (k : Slot). record_at (config_at s u) k records) here ∙ holds.held)
              (ap (λ (k : Slot). well_formed (config_at s u) k.sender (encoding r)) here ∙ encoding-well-formed (config_at s u) slot.sender most r fine)
              (decoded-encoding s.shared.n slot.sender (quorum_of s) u most r holds.well-formed)
              ∙ ap (λ (q : ℕ). update u q h.signers (payload_part (config_at s u) bundle) r) (config-quorum s u g l)

          -- the bundle given names the slot
          named_here : slot_in bundle ≡ slot
          named_here = accepted.slot-named ∙ here

          -- what an update leaves: a well-formed record, not empty, and where it delivers with the payload given
          module _ (result : Update) (f : receive-outcome ≡ done result) where
            result-filled : is_empty result.new_record ≡ false
            unfolding one-slot.outcome
            result-filled = update-filled u (quorum_of s) h.signers (payload_part (config_at s u) bundle) r result f

            result-payload : answers.delivers result.answer ≡ true → payload_of result.new_record ≡ payload_part (config_at s u) bundle
            unfolding one-slot.outcome
            result-payload d =
                update-payload u (quorum_of s) h.signers (payload_part (config_at s u) bundle) r result f (delivers-sends result.answer d)

            result-well-formed : WellFormed s.shared.n slot.sender (quorum_of s) u result.new_record
            unfolding one-slot.outcome config_at with_own
            result-well-formed =
                update-well-formed s.shared.n slot.sender (quorum_of s) u h.signers (payload_part (config_at s u) bundle) l most
                (subst (λ (k : Slot). Bundled s.shared.n k.sender h.signers (payload_part (config_at s u) bundle)) here accepted.bundled)
                r result holds.well-formed f

            result-holds : HoldsRecord s slot u (stored (config_at s u) (slot_in bundle) (encoding result.new_record) records) result.new_record
            result-holds =
                subst (λ (k : Slot). HoldsRecord s slot u (stored (config_at s u) k (encoding result.new_record) records) result.new_record) (sym named_here)
                (stores-here slot range records result.new_record (encoding-length s.shared.n slot.sender (quorum_of s) u result.new_record result-well-formed) holds.sized result-well-formed)

            result-written : answers.sends result.answer ≡ true
                → (receive_out (config_at s u) bundle records out ≡ slot_bundle slot (signers_of result.new_record) (payload_of result.new_record))
                × Bundled s.shared.n slot.sender (signers_of result.new_record) (payload_of result.new_record)
            unfolding receive_out record_bundle
            result-written x = (
              rw (receive_here ∙ f, x) (ap (λ (k : Slot). slot_bundle k (signers_of result.new_record) (payload_of result.new_record)) named_here),
              well-formed-bundled s.shared.n slot.sender (quorum_of s) u result.new_record result-filled result-well-formed,
            )

          -- a payload that is delivered is the one given
          delivered_this : (payload : List ℕ) (o : Outcome Update) → receive-outcome ≡ o
              → (after o (λ result. answers.delivers result.answer) false && same (payload_in bundle) payload)
              ≡ after o (λ result. answers.delivers result.answer && same (payload_of result.new_record) payload) false
          delivered_this payload (refused number) f = refl
          delivered_this payload (done result) f =
              this (answers.delivers result.answer) (λ d. sym (result-payload result f d ∙ accepted.payload))
            where
              this : (b : Bool) → (b ≡ true → payload_in bundle ≡ payload_of result.new_record)
                  → (b && same (payload_in bundle) payload) ≡ (b && same (payload_of result.new_record) payload)
              this true given = ap (λ (p : List ℕ). same p payload) (given refl)
              this false given = refl

          received-holds : (o : Outcome Update) → receive-outcome ≡ o
              → HoldsRecord s slot u (after o (λ result. stored (config_at s u) (slot_in bundle) (encoding result.new_record) records) records)
              (after o (λ result. result.new_record) r)
          received-holds (refused number) f = holds
          received-holds (done result) f = result-holds result f

          and-slot : (o : Outcome Update) (b : Bool) → b ≡ true
              → after o (λ result. answers.delivers result.answer && b) false ≡ after o (λ result. answers.delivers result.answer) false
          and-slot (refused number) b x = refl
          and-slot (done result) b x = rw x (and-true (answers.delivers result.answer))

          delivered-here : delivers_in s slot u (Receive bundle out) records ≡ after receive-outcome (λ result. answers.delivers result.answer) false
          unfolding delivers_in header_in
          delivered-here = rw receive_here (and-slot receive-outcome (in_slot slot bundle) (named-in-slot slot bundle named_here))

          delivered-as : (payload : List ℕ) → delivers s slot payload u (Receive bundle out) records
              ≡ one-slot.delivers_this (quorum_of s) payload u (one-slot.Receive h.signers (payload_part (config_at s u) bundle)) r
          unfolding delivers one-slot.delivers_this
          delivered-as payload = ap (λ (b : Bool). b && same (payload_in bundle) payload) delivered-here ∙ delivered_this payload receive-outcome refl

          here-match : ActCall s slot u (Receive bundle out) records r (one-slot.Receive h.signers (payload_part (config_at s u) bundle))
          unfolding delivers_at_once sends out_after announces_in announces records_after receive_records one-slot.delivers one-slot.sends one-slot.broadcasts differences.delivers_at_once differences.brings_quorum
              one-slot.broadcasts_this one-slot.receives one-slot.record_after
          here-match =
              record {
                as-delivered = delivered-here;
                as-delivered-this = delivered-as;
                as-delivered-at-once = λ payload.
                    ap₂ (λ (b c : Bool). b && c) (delivered-as payload)
                    (ap₂ (λ (q signers : ℕ). leb q (size signers)) (config-quorum s u g l) (ap (λ (k : Header). k.signers) accepted.fields));
                as-sent = rw receive_here;
                as_written = λ result f x. result-written result f x;
                as-announced = refl;
                as-announced-this = λ payload. refl;
                as-reached = λ signers payload b x.
                    let back = reached-read signers payload b x in
                    let same-header : h ≡ slot_header slot signers = done-same h (slot_header slot signers) (sym e ∙ back.0) in
                    (and-eq-true_iff _ _).1
                    (eq-eqb h.signers signers (ap (λ (k : Header). k.signers) same-header), rw back.1 (same_self payload));
                left = rw receive_here (received-holds receive-outcome refl);
              }

  -- ---- every call

  -- A call that finds the slot as `FindsRecord` says matches its act.
  pub call-matches-act : (slot : Slot) → InRange s slot → (call : Call) (records : List ℕ) (r : Record) (act : Option Act)
      → FindsRecord s slot u call records r → CallCase s slot u records call act → MatchesAct s slot u call records r act
  call-matches-act slot range call records r act finds opening = open-match slot range records r finds.0 finds.1
  call-matches-act slot range call records r act finds (broadcast-here payload out seq e here) =
      subst (λ (k : Slot). HoldsRecord s k u records r → ActCall s k u (Broadcast payload out) records r (one-slot.Broadcast payload)) here
      (broadcast-own payload out records r seq e) finds
  call-matches-act slot range call records r act finds (broadcast-elsewhere payload out seq e other) =
      broadcast-other slot range payload out records r seq e other finds
  call-matches-act slot range call records r act finds (broadcast-refused payload out number e) =
      refused-broadcast slot range payload out records r number e finds
  call-matches-act slot range call records r act finds (received-here bundle out h e here room) = here-match slot range bundle out records r finds h e here room
  call-matches-act slot range call records r act finds (received-elsewhere bundle out h e other) = other-match slot range bundle out records r finds h e other
  call-matches-act slot range call records r act finds (received-no-room bundle out h e short) = no-room-match slot range bundle out records r finds h e short
  call-matches-act slot range call records r act finds (received-unread bundle out number e) = unread-match slot range bundle out records r finds number e
