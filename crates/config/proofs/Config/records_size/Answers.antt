-- `records_size` meets its contract: 1,024 times 255 fits. Assumes nothing.
use Rattle.config.specs.Config.{records_size}
use Rattle.config.proofs.Config.records_size.Goals as goal

pub returns : goal.returns
unfolding records_size
returns c = rw (c.from.ensures, c.from-2.ensures)
