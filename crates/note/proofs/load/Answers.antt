-- `load` meets its contract: a note is a block. Assumes nothing.
use mathlib.Core.Path.{◌∙◌, sym}
use Rattle.note.proofs.Words.{block-bytes}
use Rattle.note.proofs.load.Goals as goal

pub returns : goal.returns
returns c = sym (block-bytes _) ∙ c.load-block.ensures
