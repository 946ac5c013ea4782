-- `get` meets its contract: a part of the buffer, as long as a record, is loaded as it is. Assumes nothing.
use mathlib.Core.Path.{◌∙◌}
use Rattle.calls.proofs.RecordBounds.{loaded-part}
use Rattle.calls.proofs.get.Goals as goal

pub returns : goal.returns
returns c = c.load.ensures ∙ loaded-part c.args.records.now c.args.start c.requires
