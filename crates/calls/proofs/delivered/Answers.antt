-- `delivered` meets its contract: a record that is shown lies within the buffer. Assumes nothing.
use mathlib.Core.Path.{◌≡◌, sym, ap, ap₂, ◌∙◌}
use mathlib.Core.List.{List}
use Prim.Native.Nat.{ℕ, ◌+◌, ◌-◌, ◌≤◌}
use native.Mathlib.Omega.{arith}
use lib.ListN.{length, take, drop}
use Rattle.octets.specs.Octets.{advance}
use Rattle.payload.specs.Payload.{payload_size}
use Rattle.refusal.specs.Outcome.{done}
use Rattle.refusal.specs.Refusal.{verdict_of}
use Rattle.refusal.proofs.Reasons.{plain_done, plain-refused}
use Rattle.config.specs.declared.Config.{Config}
use Rattle.config.specs.declared.Slot.{Slot}
use Rattle.config.specs.Config.{slot_of_day, slot_place, place, record_size}
use Rattle.config.proofs.Laws.{place-slot, place-room, records-fit}
use Rattle.record.specs.Record.{payload_at}
use Rattle.calls.specs.Showing.{delivered, delivered_part, delivered_place}
use Rattle.calls.proofs.Refusals.{delivered-says}
use Rattle.calls.proofs.delivered.Goals as goal
use Rattle.calls.proofs.delivered.Goals.{After-check_delivered, After-place-start, In-Ok, Start}

abbrev asked : After-place-start → After-check_delivered
asked c = (goal.at.After-place-start c).After-check_delivered

-- ---- what the check has said
module _ (c : After-check_delivered) where
  abbrev given : Start
  given = (goal.at.After-check_delivered c).Start

  abbrev config : Config
  config = given.args.config

  abbrev slot : Slot
  slot = slot_of_day config given.args.sender given.args.seq

  abbrev records : List ℕ
  records = given.args.records.now

shown : (c : In-Ok)
    → delivered (config (goal.at.In-Ok c).After-check_delivered) (slot (goal.at.In-Ok c).After-check_delivered) (records (goal.at.In-Ok c).After-check_delivered) ≡ done (place (config (goal.at.In-Ok c).After-check_delivered) (slot (goal.at.In-Ok c).After-check_delivered) + payload_at)
unfolding delivered
shown c = plain_done _ _ (sym c.check_delivered.ensures ∙ ap verdict_of c.in-Ok.is)

place-known : (c : After-place-start) → c.place-start.result ≡ place (config (asked c)) (slot (asked c))
place-known c =
    let (configured, range, long) = delivered-says _ _ _ _ (shown (goal.at.After-place-start c).In-Ok) in
    c.place-start.ensures ∙ ap slot_place c.slot_of_day.ensures ∙ sym (place-slot (config (asked c)) (slot (asked c)) configured range)

room : (c : After-place-start) → c.place-start.result + record_size ≤ length (records (asked c))
room c =
    let (configured, range, long) = delivered-says _ _ _ _ (shown (goal.at.After-place-start c).In-Ok) in
    omega (arith, place-known c, long, place-room (config (asked c)) (slot (asked c)) configured range)

-- the part starts at the payload's place
from : (c : After-place-start) → c.place-start.result + payload_at ≡ place (config (asked c)) (slot (asked c)) + payload_at
from c = ap (λ (k : ℕ). k + payload_at) (place-known c)

pub overflow_add-start : goal.overflow_add-start
overflow_add-start c =
    let (configured, range, long) = delivered-says _ _ _ _ (shown (goal.at.overflow_add-start c).In-Ok) in
    let fits = records-fit _ configured in
    omega (arith, room c)

pub overflow_add-result : goal.overflow_add-result
overflow_add-result c =
    let (configured, range, long) = delivered-says _ _ _ _ (shown (goal.at.overflow_add-result c).In-Ok) in
    let fits = records-fit _ configured in
    omega (arith, room c)

pub slice_bounds-result-end : goal.slice_bounds-result-end
slice_bounds-result-end c = omega (arith, room c)

pub returns-in-Ok : goal.returns-in-Ok
unfolding delivered_part delivered_place
returns-in-Ok c =
    let placed = c in
    let sixteen : placed.place-start.result + payload_at + payload_size - (placed.place-start.result + payload_at) ≡ payload_size = omega arith in
    record {
      result_value = rw (shown (goal.at.returns-in-Ok c).In-Ok) (ap₂ (λ (k i : ℕ). take k (drop i (records (asked (goal.at.returns-in-Ok c).After-place-start)))) sixteen (from (goal.at.returns-in-Ok c).After-place-start));
      ref_ptr_value = rw (shown (goal.at.returns-in-Ok c).In-Ok) (ap (λ (k : ℕ). advance k (given (asked (goal.at.returns-in-Ok c).After-place-start)).args.records.ref_ptr) (from (goal.at.returns-in-Ok c).After-place-start));
    }

pub returns-in-Err : goal.returns-in-Err
unfolding delivered_part delivered_place
returns-in-Err c =
    let told = c in
    let none = plain-refused (delivered (config (goal.at.returns-in-Err c).After-check_delivered) (slot (goal.at.returns-in-Err c).After-check_delivered) (records (goal.at.returns-in-Err c).After-check_delivered)) _
    (sym told.check_delivered.ensures ∙ ap verdict_of told.in-Err.is) in
    record {
      result_value = rw none;
      ref_ptr_value = rw none;
    }
