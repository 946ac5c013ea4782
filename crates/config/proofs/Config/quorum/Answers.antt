-- `Config::quorum` meets its contract, by the test of `good`. Assumes nothing.
use mathlib.Core.Path.{sym, ◌∙◌}
use Rattle.config.specs.Config.{quorum}
use Rattle.config.proofs.Laws.{quorum-chosen}
use Rattle.config.proofs.Config.quorum.Goals as goal

pub returns-then-not-good : goal.returns-then-not-good
unfolding quorum
returns-then-not-good c = rw (sym c.good.ensures ∙ c.if-not-good.true)

pub returns : goal.returns
returns c = sym (quorum-chosen _ (sym c.good.ensures ∙ c.if-not-good.false))
