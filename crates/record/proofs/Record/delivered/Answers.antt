-- `delivered` meets its contract. Assumes nothing.
use Rattle.record.proofs.Words.{delivered-bytes}
use Rattle.record.proofs.Record.delivered.Goals as goal

pub returns : goal.returns
returns c = delivered-bytes _ _ _
