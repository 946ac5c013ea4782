-- `Config::mask` meets its contract. Assumes nothing.
use mathlib.Core.Path.{sym, ◌∙◌}
use Rattle.config.specs.Config.{mask}
use Rattle.config.proofs.Laws.{mask_below}
use Rattle.config.proofs.Config.mask.Goals as goal

pub returns-then-not-good : goal.returns-then-not-good
unfolding mask
returns-then-not-good c = rw (sym c.good.ensures ∙ c.if-not-good.true)

pub returns : goal.returns
returns c = c.below.ensures ∙ mask_below _ (sym c.good.ensures ∙ c.if-not-good.false)
