-- `block` meets its contract. Assumes nothing.
use Rattle.note.proofs.Words.{block-bytes}
use Rattle.note.proofs.Note.block.Goals as goal

pub returns : goal.returns
returns c = block-bytes _
