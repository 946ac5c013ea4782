-- `first_day` meets its contract: the test of the other number, and that of the day. Assumes nothing.
use mathlib.Core.Path.{sym, ap, ◌∙◌}
use Rattle.config.specs.Config.{good}
use Rattle.equivocators.proofs.Refusals.{first-bad, first-day}
use Rattle.equivocators.proofs.first_day.Goals as goal

pub returns-then-not-good : goal.returns-then-not-good
returns-then-not-good c =
    sym (first-bad c.args.config c.args.other c.args.first.now (sym (c.good.ensures ∙ ap good c.with_own.ensures) ∙ c.if-not-good.true))

pub returns : goal.returns
returns c =
    c.new.ensures ∙ first-day c.args.config c.args.other c.args.first.now (sym (c.good.ensures ∙ ap good c.with_own.ensures) ∙ c.if-not-good.false)
