-- `held` meets its contract: it notes nothing. Assumes nothing.
use mathlib.Core.Path.{◌∙◌}
use Rattle.record.specs.Record.{encoding}
use Rattle.record.proofs.Record.held.Goals as goal

pub returns : goal.returns
unfolding encoding
returns c = c.holding.ensures ∙ rw c.nothing.ensures
