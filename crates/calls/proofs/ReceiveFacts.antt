-- Receiving a bundle is the update of the slot's record, wherever that record is well-formed: what is read, checked and taken.
-- Assumes nothing.
use mathlib.Core.Path.{◌≡◌, refl, sym, ap, ◌∙◌, subst}
use mathlib.Core.Logic.{◌⊎◌, inl, inr}
use mathlib.Core.Bool.{true, false, not, ◌&&◌, true≢false, or-false, and-eq-true_iff}
use mathlib.Core.List.{List, [], ◌∷◌}
use Prim.Native.Nat.{ℕ, ◌<◌}
use native.Mathlib.Omega.{arith}
use lib.ListN.{length}
use borrow.Author.Tests.{eqb-true, not-true, not-false, ltb-true}
use Rattle.octets.proofs.Numbers.{length_part}
use Rattle.signers.specs.Signers.{member, within, size}
use Rattle.refusal.specs.Outcome.{Outcome, refused, done, ◌if◌, checked, ◌and_then◌}
use Rattle.refusal.proofs.Reasons.{Clear, refused-not-done, done-clear, asked, refused-asked, refused-clear}
use Rattle.config.specs.declared.Config.{Config}
use Rattle.config.specs.Config.{good, quorum, slots, records_size, in_range}
use Rattle.bundle.specs.declared.Header.{Header}
use Rattle.bundle.specs.Bundle.{payload_in, payload_start, header_in, header_reasons, read_reasons, read, bundle_size, payload_part, slot_in, slot_of}
use Rattle.bundle.proofs.Accepted.{accepted-readable, accepted-payload}
use Rattle.protocol.specs.Update.{Record, note_of, is_delivered, holds, notes_other, Update, other_without_quorum, update_reasons, update_result, update}
use Rattle.protocol.proofs.WellFormed.{Bundled}
use Rattle.record.specs.Record.{encoding, decoded, well_formed}
use Rattle.payload.specs.Payload.{payload_size}
use Rattle.bundle.proofs.Example.{payload}
use Rattle.config.proofs.Laws.{in-range}
use Rattle.calls.specs.Records.{record_at}
use Rattle.calls.specs.Receive.{receive_reasons, receive}
use Rattle.calls.proofs.Refusals.{receive-updated}

-- a bundle that reading accepts: its fields are in range, its day is the table's, and it has a bundle's signers and payload
pub record Read (config : Config) (bundle : List ℕ) (h : Header) : Type 0 where
  pub configured : good config ≡ true
  pub fields : header_in bundle ≡ h
  pub slot-named : slot_in bundle ≡ slot_of h
  pub today : h.day ≡ config.day
  pub range : in_range config (slot_of h) ≡ true
  pub bundled : Bundled config.n h.sender h.signers (payload_part config bundle)
  pub payload : payload_part config bundle ≡ payload_in bundle

header-clear : (config : Config) (h : Header) → Clear (header_reasons config h)
    → (h.sender < config.n) × (h.seq < slots) × (within h.signers config.n ≡ true) × (member h.signers h.sender ≡ true)
unfolding header_reasons
header-clear config h c =
    (ltb-true _ _ (not-false _ c.0), ltb-true _ _ (not-false _ c.1.0), not-false _ c.1.1.0, not-false _ c.1.1.1.0)

day-in : (bundle : List ℕ) → (header_in bundle).day ≡ (slot_in bundle).day
unfolding header_in
day-in bundle = refl

slot-in : (bundle : List ℕ) → slot_in bundle ≡ slot_of (header_in bundle)
unfolding header_in slot_in
slot-in bundle = refl

pub read-says : (config : Config) (bundle : List ℕ) (h : Header) → read config bundle ≡ done h → Read config bundle h
read-says config bundle h e =
    let (ok, same) = accepted-readable config bundle h e in
    let c = header-clear config h (subst (λ (x : Header). Clear (header_reasons config x)) same ok.clear) in
    let last = (accepted-payload config bundle h e).0 in
    let long : length bundle ≡ bundle_size = ok.long in
    record {
      configured = ok.configured;
      fields = same;
      slot-named = slot-in bundle ∙ ap slot_of same;
      today = ap (λ (x : Header). x.day) (sym same) ∙ day-in bundle ∙ ok.today;
      range = in-range config (slot_of h) c.0 c.1;
      bundled = record { known = c.2; authentic = c.3; whole = ap length last ∙ length_part bundle payload_start payload_size (omega arith) };
      payload = last;
    }

receive-clear : (config : Config) (bundle records out : List ℕ) (h : Header) → Clear (receive_reasons config bundle records out h)
    → (length out ≡ bundle_size) × (length records ≡ records_size config) × (well_formed config h.sender (record_at config (slot_of h) records) ≡ true)
unfolding receive_reasons
receive-clear config bundle records out h c = (eqb-true _ _ (not-false _ c.0), eqb-true _ _ (not-false _ c.1.0), not-false _ c.1.1.0)

module _ (config : Config) (bundle records out : List ℕ) where
  module _ (h : Header) (e : read config bundle ≡ done h) where
    -- a well-formed record is updated
    pub receive-updates : (r : Record) → length out ≡ bundle_size → length records ≡ records_size config → record_at config (slot_of h) records ≡ encoding r
        → well_formed config h.sender (encoding r) ≡ true → decoded (encoding r) ≡ r
        → receive config bundle records out ≡ update config.own (quorum config) h.signers (payload_part config bundle) r
    receive-updates r room size held formed back =
        receive-updated config bundle records out h e room size (ap (well_formed config h.sender) held ∙ formed)
        ∙ ap (update config.own (quorum config) h.signers (payload_part config bundle)) (ap decoded held ∙ back)

    -- a bundle that is taken found 32 outgoing bytes, a buffer of the right size, and a record that the update goes on from, and that is well-formed
    pub receive-done : (result : Update) → receive config bundle records out ≡ done result
        → (length out ≡ bundle_size) × (length records ≡ records_size config)
        × (update config.own (quorum config) h.signers (payload_part config bundle) (decoded (record_at config (slot_of h) records)) ≡ done result)
        × (well_formed config h.sender (record_at config (slot_of h) records) ≡ true)
    unfolding receive
    receive-done result f = go (checked (receive_reasons config bundle records out h)) refl (rw e at f)
      where
        go : (o : Outcome Unit) → checked (receive_reasons config bundle records out h) ≡ o
            → (o and_then λ _. update config.own (quorum config) h.signers (payload_part config bundle) (decoded (record_at config (slot_of h) records))) ≡ done result
            → (length out ≡ bundle_size) × (length records ≡ records_size config)
            × (update config.own (quorum config) h.signers (payload_part config bundle) (decoded (record_at config (slot_of h) records)) ≡ done result)
            × (well_formed config h.sender (record_at config (slot_of h) records) ≡ true)
        go (refused number) c t = absurd (refused-not-done number result t)
        go (done first) c t =
            let k = receive-clear config bundle records out h (done-clear (receive_reasons config bundle records out h) tt first c).0 in (k.0, k.1, t, k.2)

-- a receive that is refused by a number that is not one of reading's read its bundle, and refuses after that, or its update does
receive-refused-late : (config : Config) (bundle records out : List ℕ) (number : ℕ) → receive config bundle records out ≡ refused number
    → asked number (read_reasons config bundle) ≡ false
    → (h : Header)
    × (read config bundle ≡ done h)
    × ((checked (receive_reasons config bundle records out h) ≡ refused number)
    ⊎ (update config.own (quorum config) h.signers (payload_part config bundle) (decoded (record_at config (slot_of h) records)) ≡ refused number))
unfolding receive read
receive-refused-late config bundle records out number e other = go (read config bundle) refl e
  where
    Late : Type 0
    Late =
        (h : Header)
        × (read config bundle ≡ done h)
        × ((checked (receive_reasons config bundle records out h) ≡ refused number)
        ⊎ (update config.own (quorum config) h.signers (payload_part config bundle) (decoded (record_at config (slot_of h) records)) ≡ refused number))

    after_read : (h : Header) → read config bundle ≡ done h → (o : Outcome Unit) → checked (receive_reasons config bundle records out h) ≡ o
        → (o and_then λ _. update config.own (quorum config) h.signers (payload_part config bundle) (decoded (record_at config (slot_of h) records))) ≡ refused number → Late
    after_read h r (refused found) c f = let same : found ≡ number = cc in (h, r, inl (c ∙ ap refused same))
    after_read h r (done first) c f = (h, r, inr f)

    go : (b : Outcome Header) → read config bundle ≡ b
        → (b and_then λ h. checked (receive_reasons config bundle records out h) and_then λ _.
        update config.own (quorum config) h.signers (payload_part config bundle) (decoded (record_at config (slot_of h) records))) ≡ refused number → Late
    go (refused found) r f =
        let same : found ≡ number = cc in
        absurd (true≢false (sym (refused-asked (read_reasons config bundle) (header_in bundle) number (r ∙ ap refused same)) ∙ other))
    go (done h) r f = after_read h r (checked (receive_reasons config bundle records out h)) refl f

-- 21: there is a malformed record in the slot
pub receive-malformed-says : (config : Config) (bundle records out : List ℕ) → receive config bundle records out ≡ refused 21
    → (h : Header) × (read config bundle ≡ done h) × (well_formed config h.sender (record_at config (slot_of h) records) ≡ false)
unfolding receive_reasons read_reasons header_reasons update update_reasons
receive-malformed-says config bundle records out e =
    let (h, r, late) = receive-refused-late config bundle records out 21 e refl in
    (h, r, malformed h late)
  where
    not-by-update : (own q signers : ℕ) (payload : List ℕ) (r : Record) → update own q signers payload r ≡ refused 21 → ⊥
    not-by-update own q signers payload r f =
        true≢false (sym (refused-asked (update_reasons own q signers payload r) (update_result own q signers payload r) 21 f))

    malformed : (h : Header)
        → (checked (receive_reasons config bundle records out h) ≡ refused 21)
        ⊎ (update config.own (quorum config) h.signers (payload_part config bundle) (decoded (record_at config (slot_of h) records)) ≡ refused 21)
        → well_formed config h.sender (record_at config (slot_of h) records) ≡ false
    malformed h (inl c) = not-true _ (sym (or-false _) ∙ refused-asked (receive_reasons config bundle records out h) tt 21 c)
    malformed h (inr f) =
        absurd (not-by-update config.own (quorum config) h.signers (payload_part config bundle) (decoded (record_at config (slot_of h) records)) f)

-- 23: the record has delivered nothing and does not hold the bundle's payload, and the bundle has our bit
pub receive-unknown-says : (config : Config) (bundle records out : List ℕ) → receive config bundle records out ≡ refused 23
    → (h : Header)
    × (read config bundle ≡ done h)
    × (is_delivered (decoded (record_at config (slot_of h) records)) ≡ false)
    × (member h.signers config.own ≡ true)
    × (holds (decoded (record_at config (slot_of h) records)) (payload_part config bundle) ≡ false)
unfolding receive_reasons read_reasons header_reasons update update_reasons
receive-unknown-says config bundle records out e =
    let (h, r, late) = receive-refused-late config bundle records out 23 e refl in
    let (waits, ours, apart) = unknown h late in
    (h, r, waits, ours, apart)
  where
    by-update : (own q signers : ℕ) (payload : List ℕ) (r : Record) → update own q signers payload r ≡ refused 23
        → (is_delivered r ≡ false) × (member signers own ≡ true) × (holds r payload ≡ false)
    by-update own q signers payload r f =
        let (ours, apart) = (and-eq-true_iff (member signers own) (not (holds r payload))).0
        (sym (or-false _) ∙ refused-asked (update_reasons own q signers payload r) (update_result own q signers payload r) 23 f) in
        let (waits, rest) =
        refused-clear 23 ((22 if is_delivered r) ∷ [])
        ((23 if member signers own && not (holds r payload)) ∷ (24 if other_without_quorum own q signers payload r && notes_other (note_of r) payload) ∷ []) (update_result own q signers payload r) refl f in
        (waits, ours, not-true _ apart)

    unknown : (h : Header)
        → (checked (receive_reasons config bundle records out h) ≡ refused 23)
        ⊎ (update config.own (quorum config) h.signers (payload_part config bundle) (decoded (record_at config (slot_of h) records)) ≡ refused 23)
        → (is_delivered (decoded (record_at config (slot_of h) records)) ≡ false)
        × (member h.signers config.own ≡ true)
        × (holds (decoded (record_at config (slot_of h) records)) (payload_part config bundle) ≡ false)
    unknown h (inl c) = absurd (true≢false (sym (refused-asked (receive_reasons config bundle records out h) tt 23 c)))
    unknown h (inr f) =
        by-update config.own (quorum config) h.signers (payload_part config bundle) (decoded (record_at config (slot_of h) records)) f
