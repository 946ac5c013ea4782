-- `load` meets its contract: the 64 bytes are two halves. Assumes nothing.
use Rattle.record.proofs.Words.{loaded-whole, loaded-other}
use Rattle.record.proofs.load.Goals as goal

pub returns-then-slice-ne-RECORD_SIZE : goal.returns-then-slice-ne-RECORD_SIZE
returns-then-slice-ne-RECORD_SIZE c = loaded-other _ _ c.if-slice-ne-RECORD_SIZE.true c.nothing.ensures

pub returns : goal.returns
returns c = loaded-whole _ _ c.if-slice-ne-RECORD_SIZE.false c.load-block.ensures c.load.ensures
