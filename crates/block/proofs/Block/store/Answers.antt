-- `store` meets its contract: four words fill the slice. Assumes nothing.
use mathlib.Core.Path.{◌∙◌}
use Rattle.block.proofs.Laws.{stored-words}
use Rattle.block.proofs.Block.store.Goals as goal

pub returns : goal.returns
returns c = c.fill.ensures ∙ stored-words _ _
