-- `store` meets its contract: the halves are stored one after the other, and fill the slice. Assumes nothing.
use mathlib.Core.Path.{◌∙◌}
use borrow.Author.Tests.{eq-eqb}
use Rattle.block.specs.Block as block
use Rattle.block.proofs.Laws as block-laws
use Rattle.note.specs.Note as note
use Rattle.record.specs.Inner.{held_block}
use Rattle.record.proofs.Words.{half-bytes, stored-halves}
use Rattle.record.proofs.Record.store.Goals as goal

pub returns : goal.returns
returns c =
    let first = c in
    let halved = first in
    let start = halved in
    stored-halves start.args.slice.now (block.bytes (held_block start.args.self)) (note.bytes start.args.self.note) halved.if-slice-ne-RECORD_SIZE.false
    (block-laws.bytes-length (held_block start.args.self)) _ _ (rw halved.half.ensures at first.store.ensures) c.store-2.ensures
    ∙ half-bytes start.args.self
    ∙ rw (eq-eqb _ _ halved.if-slice-ne-RECORD_SIZE.false)
