-- `records_well_formed` meets its contract: the records of the senders below `sender` are well-formed. Assumes nothing.
use mathlib.Core.Path.{◌≡◌, refl, sym, ◌∙◌}
use native.Mathlib.Omega.{arith}
use Rattle.config.proofs.Laws.{good-says}
use Rattle.protocol.specs.Trace.{each}
use Rattle.protocol.proofs.ComputedTests.{each_next, each-fails}
use Rattle.calls.specs.WellFormed.{sender_well_formed, all_well_formed}
use Rattle.calls.proofs.day.records_well_formed.Goals as goal

pub returns-then-config-gt64 : goal.returns-then-config-gt64
returns-then-config-gt64 c = absurd (let most = (good-says c.args.config c.requires.config_value).most in omega arith)

pub loop-sender-init : goal.loop-sender-init
unfolding each
loop-sender-init c = refl

pub returns-then-not-sender_well_formed : goal.returns-then-not-sender_well_formed
unfolding all_well_formed
returns-then-not-sender_well_formed c =
    sym
    (each-fails c.args.config.n c.loop-sender.sender (sender_well_formed c.args.config c.args.records.now) c.loop-sender-test.true
    (sym c.sender_well_formed.ensures ∙ c.if-not-sender_well_formed.true))

pub loop-sender-preserved : goal.loop-sender-preserved
loop-sender-preserved c =
    each_next c.loop-sender.sender (sender_well_formed c.args.config c.args.records.now) c.loop-sender.invariant
    (sym c.sender_well_formed.ensures ∙ c.if-not-sender_well_formed.false)

pub returns : goal.returns
unfolding all_well_formed
returns c =
    let end : c.loop-sender.sender ≡ c.args.config.n = omega arith in
    sym (rw end at c.loop-sender.invariant)
