-- `record` meets its contract: the place of a slot has room for a record, and what lies there is loaded as it is. Assumes nothing.
use mathlib.Core.Path.{◌≡◌, sym, ap, ◌∙◌, subst}
use Prim.Native.Nat.{ℕ, ◌+◌, ◌≤◌}
use lib.ListN.{length}
use Rattle.config.specs.Config.{slot_place, slot_of_day, record_size}
use Rattle.calls.proofs.RecordBounds.{loaded-part, record-at}
use Rattle.calls.proofs.Days.{place_known, room}
use Rattle.calls.proofs.day.Day.record.Goals as goal

pub returns : goal.returns
returns c =
    let d = c.args.self in
    let slot = slot_of_day d.config c.args.sender c.args.seq in
    let is : c.place-start.result ≡ slot_place slot = c.place-start.ensures ∙ ap slot_place c.slot_of_day.ensures in
    let fits = room d.config d.records.now c.args.sender c.args.seq d.config_value d.records_len c.requires.sender_lt_n c.requires.seq_lt_slots in
    c.load.ensures
    ∙ loaded-part d.records.now c.place-start.result (subst (λ (at : ℕ). at + record_size ≤ length d.records.now) (sym is) fits)
    ∙ record-at d.config slot d.records.now c.place-start.result
    (is ∙ place_known d.config d.records.now c.args.sender c.args.seq d.config_value d.records_len c.requires.sender_lt_n c.requires.seq_lt_slots)
