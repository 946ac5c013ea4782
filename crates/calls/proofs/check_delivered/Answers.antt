-- `check_delivered` meets its contract: each return follows from the tests passed before it. Assumes nothing.
use mathlib.Core.Path.{◌≡◌, sym, ap, ap₂, ◌∙◌}
use mathlib.Core.Bool.{true, false}
use mathlib.Core.List.{List}
use Prim.Native.Nat.{ℕ, ◌+◌, ◌<◌}
use Rattle.refusal.specs.Outcome.{refused, done}
use Rattle.refusal.specs.Refusal.{number_of}
use Rattle.refusal.proofs.Passed.{passed-on}
use Rattle.refusal.proofs.Reasons.{plain-told}
use Rattle.config.specs.declared.Config.{Config}
use Rattle.config.specs.declared.Slot.{Slot}
use Rattle.config.specs.Config.{good, slots, slot_of_day, place}
use Rattle.record.specs.Record.{bytes, decoded, well_formed, payload_at}
use Rattle.protocol.specs.Update.{is_delivered}
use Rattle.calls.specs.Records.{record_at}
use Rattle.calls.specs.Showing.{delivered}
use Rattle.calls.proofs.Days.{Made, day-made, day-length}
use Rattle.calls.proofs.Refusals.{delivered-bad, delivered-sender, delivered-seq, delivered-size, delivered-malformed, delivered-not, delivered-done}
use Rattle.calls.proofs.check_delivered.Goals as goal
use Rattle.calls.proofs.check_delivered.Goals.{After-from_residual, After-record-record, Else-not-good, Else-seq-ge-SLOTS}

good-known : (c : Else-not-good) → good c.args.config ≡ true
good-known c = sym c.good.ensures ∙ c.if-not-good.false

module _ (c : Else-seq-ge-SLOTS) where
  abbrev slot : Slot
  slot = slot_of_day c.args.config c.args.sender c.args.seq

  sender-known : slot.sender < c.args.config.n
  unfolding slot_of_day
  sender-known = c.if-config-sender.false

  seq-known : slot.seq < slots
  unfolding slot_of_day
  seq-known = c.if-seq-ge-SLOTS.false

-- no day is made of records of another length
stopped : (c : After-from_residual)
    → delivered c.args.config (slot_of_day c.args.config c.args.sender c.args.seq) c.args.records.now ≡ refused (number_of c.in_err-day.field-0.0)
stopped c =
    let (number, wrong) = day-length c.args.config c.args.records.now (sym c.good.ensures ∙ c.if-not-good.false) _ c.in_err-day.ensures in
    let at = (goal.at.After-from_residual c).Else-seq-ge-SLOTS in
    delivered-size c.args.config (slot at) c.args.records.now (sym c.good.ensures ∙ c.if-not-good.false) (sender-known at) (seq-known at) wrong ∙ ap refused (sym number)

-- the day has what was given, and the record that was loaded is the slot's
module _ (c : After-record-record) where
  made : Made c.args.config c.args.records.now (c.in_ok-day.day.config, c.in_ok-day.day.records.now)
  made = day-made _ _ _ c.in_ok-day.ensures

  record-known : bytes c.record-record.result ≡ record_at c.args.config (slot_of_day c.args.config c.args.sender c.args.seq) c.args.records.now
  record-known =
      c.record-record.ensures
      ∙ ap₂ (λ (g : Config) (xs : List ℕ). record_at g (slot_of_day g c.args.sender c.args.seq) xs) made.config_is made.records_is

  -- what the tests before it have passed
  abbrev fine : Else-seq-ge-SLOTS
  fine = (goal.at.After-record-record c).Else-seq-ge-SLOTS

  -- the three answers that the record gives
  malformed : well_formed c.args.config c.args.sender (bytes c.record-record.result) ≡ false → delivered c.args.config (slot fine) c.args.records.now ≡ refused 21
  unfolding slot_of_day
  malformed e =
      delivered-malformed _ _ _ made.config_good (sender-known fine) (seq-known fine) made.records_whole
      (ap (well_formed c.args.config c.args.sender) (sym record-known) ∙ e)

  module _ (formed : well_formed c.args.config c.args.sender (bytes c.record-record.result) ≡ true) where
    undelivered : is_delivered (decoded (bytes c.record-record.result)) ≡ false → delivered c.args.config (slot fine) c.args.records.now ≡ refused 26
    unfolding slot_of_day
    undelivered e =
        delivered-not _ _ _ made.config_good (sender-known fine) (seq-known fine) made.records_whole
        (ap (well_formed c.args.config c.args.sender) (sym record-known) ∙ formed) (ap (λ (xs : List ℕ). is_delivered (decoded xs)) (sym record-known) ∙ e)

    shown : is_delivered (decoded (bytes c.record-record.result)) ≡ true
        → delivered c.args.config (slot fine) c.args.records.now ≡ done (place c.args.config (slot fine) + payload_at)
    unfolding slot_of_day
    shown e =
        delivered-done _ _ _ made.config_good (sender-known fine) (seq-known fine) made.records_whole
        (ap (well_formed c.args.config c.args.sender) (sym record-known) ∙ formed) (ap (λ (xs : List ℕ). is_delivered (decoded xs)) (sym record-known) ∙ e)

pub returns-then-not-good : goal.returns-then-not-good
returns-then-not-good c = rw (delivered-bad _ _ _ (sym c.good.ensures ∙ c.if-not-good.true))

pub returns-then-config-sender : goal.returns-then-config-sender
unfolding slot_of_day
returns-then-config-sender c =
    rw (delivered-sender _ (slot_of_day _ _ _) _ (good-known (goal.at.returns-then-config-sender c).Else-not-good) c.if-config-sender.true)

pub returns-then-seq-ge-SLOTS : goal.returns-then-seq-ge-SLOTS
unfolding slot_of_day
returns-then-seq-ge-SLOTS c =
    rw (delivered-seq _ (slot_of_day _ _ _) _ (good-known (goal.at.returns-then-seq-ge-SLOTS c).Else-not-good) c.if-config-sender.false c.if-seq-ge-SLOTS.true)

pub returns-in_err-day : goal.returns-in_err-day
returns-in_err-day c = passed-on _ _ _ c.from_residual.ensures.1 ∙ plain-told _ _ (stopped c)

pub record-record-requires : goal.record-record-requires
record-record-requires c =
    let day = day-made _ _ _ c.in_ok-day.ensures in
    record { sender_lt_n = rw day.config_is c.if-config-sender.false; seq_lt_slots = c.if-seq-ge-SLOTS.false }

pub returns-then-not-well_formed : goal.returns-then-not-well_formed
returns-then-not-well_formed c = rw (malformed (goal.at.returns-then-not-well_formed c).After-record-record (sym c.if-not-well_formed.ensures))

pub returns-then-not-is_delivered : goal.returns-then-not-is_delivered
returns-then-not-is_delivered c =
    rw (undelivered (goal.at.returns-then-not-is_delivered c).After-record-record (sym c.if-not-well_formed.ensures) (sym c.if-not-is_delivered.ensures))

pub returns : goal.returns
returns c = rw (shown (goal.at.returns c).After-record-record (sym c.if-not-well_formed.ensures) (sym c.if-not-is_delivered.ensures))
