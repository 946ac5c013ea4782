-- After a list of calls in order all records at a node that was called are well-formed, no call there is refused by 21, and no bundle with genuine signatures by 23:
-- `RecordsWellFormed`, `NeverMalformed` and `NeverOwnUnknown` of specs/Order.antt. The bytes of each slot in range are those of a well-formed record, which holds what the node signed; 21 would show one that is not, and 23 a
-- payload signed and not held.
-- Assumes nothing.
use mathlib.Core.Path.{◌≡◌, refl, sym, ap, ◌∙◌, subst}
use mathlib.Core.Bool.{true, false, true≢false}
use mathlib.Core.List.{List}
use Prim.Native.Nat.{ℕ, ◌<◌}
use lib.Dec.{lit<}
use Rattle.octets.proofs.Same.{same_self}
use Rattle.config.specs.declared.Config.{Config}
use Rattle.config.specs.declared.Slot.{Slot}
use Rattle.config.specs.Config.{with_own, good, in_range, slot_of_day}
use Rattle.config.proofs.Laws.{good-says, in-range}
use Rattle.bundle.specs.Bundle.{payload_part, slot_of}
use Rattle.protocol.specs.Update.{Record, Empty, Held, Delivered, is_delivered, holds}
use Rattle.protocol.specs.Trace.{Trace}
use Rattle.record.specs.Record.{well_formed}
use Rattle.record.proofs.Encoding.{encoding-well-formed}
use Rattle.protocol.proofs.WellFormed.{WellFormed}
use Rattle.calls.specs.Records.{record_at, own_slot}
use Rattle.calls.specs.WellFormed.{slot_well_formed}
use Rattle.calls.specs.Algorithm.{record_of}
use Rattle.calls.proofs.RecordBounds.{own_range}
use Rattle.calls.proofs.FreeNumber.{refused-by-malformed}
use Rattle.calls.proofs.Records.{same_place, all-well-formed}
use Rattle.calls.proofs.ReceiveFacts.{read-says, receive-malformed-says, receive-unknown-says}
use Rattle.calls.proofs.Refusals.{delivered-malformed-says}
use Rattle.system.specs.Demand3.{Call, System, config_at, signs, buffer, ever, called}
use Rattle.system.specs.Differences.{HoldsSigned}
use Rattle.system.specs.Order.{Orderly, RecordsWellFormed, NeverMalformed, NeverOwnUnknown}
use Rattle.system.proofs.CommonConfig.{config-good, config-quorum, InRange, range-from}
use Rattle.system.proofs.Simulation.{correct-below, slot_record, order-holds}
use Rattle.system.proofs.Differences.{holds-signed}

-- our own slot has ourselves as its sender
own-sender : (config : Config) (seq : ℕ) (records : List ℕ) → well_formed config config.own (record_at config (own_slot config seq) records) ≡ false
    → well_formed config (own_slot config seq).sender (record_at config (own_slot config seq) records) ≡ false
unfolding slot_of_day
own-sender config seq records e = e

module _ (s : System) (list : Trace Call) (orderly : Orderly s list) (u : ℕ) (known : u < s.shared.n) (here : called s list u ≡ true) where
  good-here : good (config_at s u) ≡ true
  good-here = config-good s u orderly.configured known

  -- the record of every slot in range is well-formed
  formed : (slot : Slot) → InRange s slot → well_formed (config_at s u) slot.sender (record_at (config_at s u) slot (buffer s list u)) ≡ true
  unfolding config_at with_own
  formed slot range =
      let holds = order-holds s slot range orderly.configured orderly.dated list orderly.ordered u here in
      ap (well_formed (config_at s u) slot.sender) holds.held
      ∙ encoding-well-formed (config_at s u) slot.sender (good-says (config_at s u) good-here).most (slot_record s slot list u)
      (subst (λ (q : ℕ). WellFormed s.shared.n slot.sender q u (slot_record s slot list u)) (sym (config-quorum s u orderly.configured known)) holds.well-formed)

  -- so none is not: where a record lies does not depend on the day
  not-malformed : (slot : Slot) → in_range (config_at s u) slot ≡ true
      → well_formed (config_at s u) slot.sender (record_at (config_at s u) slot (buffer s list u)) ≡ false → ⊥
  unfolding config_at with_own slot_of_day in_range
  not-malformed slot range e =
      let today = slot_of_day s.shared slot.sender slot.seq in
      true≢false
      (sym (formed today (record { today = refl; inside = range }))
      ∙ ap (well_formed (config_at s u) slot.sender) (same_place (config_at s u) today slot refl refl (buffer s list u))
      ∙ e)

-- the buffer, and all records in it
pub records-well-formed : RecordsWellFormed
unfolding slot_well_formed slot_of_day config_at with_own
records-well-formed s list orderly u known here =
    let own = slot_of_day s.shared u 0 in (
      (order-holds s own (record { today = refl; inside = in-range s.shared own known (lit< tt) }) orderly.configured orderly.dated list orderly.ordered u here).sized,
      all-well-formed (config_at s u) (buffer s list u)
          (λ sender seq below k.
          formed s list orderly u known here (slot_of_day s.shared sender seq) (record { today = refl; inside = in-range s.shared (slot_of_day s.shared sender seq) below k })),
    )

pub never-malformed : NeverMalformed
never-malformed s list orderly u known here = (
  λ payload out e.
      let (seq, found) = refused-by-malformed (config_at s u) payload (buffer s list u) out e in
      not-malformed s list orderly u known here (own_slot (config_at s u) seq) (own_range (config_at s u) seq (good-here s list orderly u known here) found.ours)
      (own-sender (config_at s u) seq (buffer s list u) found.malformed),
  λ bundle out e.
      let (h, accepted, malformed) = receive-malformed-says (config_at s u) bundle (buffer s list u) out e in
      not-malformed s list orderly u known here (slot_of h) (read-says (config_at s u) bundle h accepted).range malformed,
  λ slot e.
      let (range, malformed) = delivered-malformed-says (config_at s u) slot (buffer s list u) e in
      not-malformed s list orderly u known here slot range malformed,
)

-- a record that does not hold a payload that the node signed, and has delivered nothing
unheld : (s : System) (list : Trace Call) (u : ℕ) (slot : Slot) (payload : List ℕ) → HoldsSigned s list u slot → ever s (signs s slot payload) list u ≡ true
    → (r : Record) → record_of (config_at s u) slot (buffer s list u) ≡ r → is_delivered r ≡ false → holds r payload ≡ false → ⊥
unheld s list u slot payload kept signed Empty is waits apart = true≢false (sym signed ∙ kept.empty is payload)
unheld s list u slot payload kept signed (Held signers held note) is waits apart =
    let one : held ≡ payload = kept.signs_one held payload (kept.held signers held note is) signed in
    true≢false (sym (rw one (same_self payload)) ∙ apart)
unheld s list u slot payload kept signed (Delivered signers first note) is waits apart = true≢false waits

pub never-own-unknown : NeverOwnUnknown
unfolding config_at with_own
never-own-unknown s list orderly u fine here bundle out unforged e =
    let (h, accepted, waits, ours, apart) = receive-unknown-says (config_at s u) bundle (buffer s list u) out e in
    let ok = read-says (config_at s u) bundle h accepted in
    let known = correct-below s u fine in
    unheld s list u (slot_of h) (payload_part (config_at s u) bundle)
    (holds-signed s list orderly (slot_of h) (range-from s (slot_of h) u ok.today ok.range) u known here) (unforged h accepted u fine ours)
    (record_of (config_at s u) (slot_of h) (buffer s list u)) refl waits apart
