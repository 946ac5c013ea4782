-- `well_formed_record` meets its contract: the record that is tested is the slot's. Assumes nothing.
use mathlib.Core.Path.{sym, ap, ◌∙◌}
use Rattle.refusal.specs.Outcome.{done}
use Rattle.calls.proofs.Days.{loaded-formed, slot-sender, slot-seq, slot-malformed, slot-done}
use Rattle.calls.proofs.day.Day.well_formed_record.Goals as goal

pub returns-then-self-sender : goal.returns-then-self-sender
returns-then-self-sender c = sym (slot-sender c.args.self.config c.args.self.records.now c.args.sender c.args.seq c.if-self-sender.true)

pub returns-then-seq-ge-SLOTS : goal.returns-then-seq-ge-SLOTS
returns-then-seq-ge-SLOTS c =
    sym (slot-seq c.args.self.config c.args.self.records.now c.args.sender c.args.seq c.if-self-sender.false c.if-seq-ge-SLOTS.true)

pub returns-then-not-well_formed : goal.returns-then-not-well_formed
returns-then-not-well_formed c =
    sym
    (slot-malformed c.args.self.config c.args.self.records.now c.args.sender c.args.seq c.if-self-sender.false c.if-seq-ge-SLOTS.false
    (sym (loaded-formed _ _ c.args.sender c.args.seq _ c.record-record.ensures) ∙ (sym c.well_formed-2.ensures ∙ c.if-not-well_formed.true)))

pub returns : goal.returns
returns c =
    ap done c.record-record.ensures
    ∙ sym
    (slot-done c.args.self.config c.args.self.records.now c.args.sender c.args.seq c.if-self-sender.false c.if-seq-ge-SLOTS.false
    (sym (loaded-formed _ _ c.args.sender c.args.seq _ c.record-record.ensures) ∙ (sym c.well_formed-2.ensures ∙ c.if-not-well_formed.false)))
