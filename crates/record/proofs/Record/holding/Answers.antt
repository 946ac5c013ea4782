-- `holding` meets its contract. Assumes nothing.
use Rattle.record.proofs.Words.{held_bytes}
use Rattle.record.proofs.Record.holding.Goals as goal

pub returns : goal.returns
returns c = held_bytes _ _ _
