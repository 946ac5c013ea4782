-- `put` meets its contract: what is stored over a part stands in its place. Assumes nothing.
use Rattle.record.specs.Record.{bytes}
use Rattle.calls.specs.Records.{replaced}
use Rattle.calls.proofs.RecordBounds.{stored-part}
use Rattle.calls.proofs.put.Goals as goal

pub returns : goal.returns
unfolding replaced
returns c = stored-part c.args.records.now _ (bytes c.args.«record») c.args.start c.requires c.store.ensures
