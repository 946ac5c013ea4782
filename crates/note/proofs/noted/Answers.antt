-- `noted` meets its contract. Assumes nothing.
use Rattle.note.proofs.Words.{noted-bytes}
use Rattle.note.proofs.noted.Goals as goal

pub returns : goal.returns
returns c = noted-bytes _ _
