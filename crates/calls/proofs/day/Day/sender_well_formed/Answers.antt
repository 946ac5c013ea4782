-- `sender_well_formed` meets its contract: the records with numbers below `seq` are well-formed. Assumes nothing.
use mathlib.Core.Path.{◌≡◌, refl, sym, ◌∙◌}
use native.Mathlib.Omega.{arith}
use Rattle.config.specs.Config.{slots}
use Rattle.protocol.specs.Trace.{each}
use Rattle.protocol.proofs.ComputedTests.{each_next, each-fails}
use Rattle.calls.proofs.Days.{loaded-formed}
use Rattle.calls.specs.WellFormed.{slot_well_formed, sender_well_formed}
use Rattle.calls.proofs.day.Day.sender_well_formed.Goals as goal

pub loop-seq-init : goal.loop-seq-init
unfolding each
loop-seq-init c = refl

pub returns-then-not-well_formed : goal.returns-then-not-well_formed
unfolding sender_well_formed
returns-then-not-well_formed c =
    let d = c.args.self in
    sym
    (each-fails slots c.loop-seq.seq (slot_well_formed d.config d.records.now c.args.sender) c.loop-seq-test.true
    (sym (loaded-formed _ _ c.args.sender c.loop-seq.seq _ c.record.ensures) ∙ (sym c.well_formed-in-loop-seq.ensures ∙ c.if-not-well_formed.true)))

pub loop-seq-preserved : goal.loop-seq-preserved
loop-seq-preserved c =
    let d = c.args.self in
    each_next c.loop-seq.seq (slot_well_formed d.config d.records.now c.args.sender) c.loop-seq.invariant
    (sym (loaded-formed _ _ c.args.sender c.loop-seq.seq _ c.record.ensures) ∙ (sym c.well_formed-in-loop-seq.ensures ∙ c.if-not-well_formed.false))

pub returns : goal.returns
unfolding sender_well_formed
returns c =
    let end : c.loop-seq.seq ≡ slots = omega arith in
    sym (rw end at c.loop-seq.invariant)
