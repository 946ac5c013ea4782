-- `nothing` meets its contract. Assumes nothing.
use Rattle.note.proofs.Words.{nothing-bytes}
use Rattle.note.proofs.nothing.Goals as goal

pub returns : goal.returns
returns c = nothing-bytes
