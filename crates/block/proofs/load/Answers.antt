-- `load` meets its contract: 32 bytes are two words and a payload. Assumes nothing.
use Rattle.block.proofs.Laws.{loaded-whole, loaded-other}
use Rattle.block.proofs.load.Goals as goal

pub returns-then-slice-ne-SIZE : goal.returns-then-slice-ne-SIZE
returns-then-slice-ne-SIZE c =
    let zero = c.default.ensures in
    loaded-other _ _ c.if-slice-ne-SIZE.true (record { first-zero = zero.0; second-zero = zero.1.0; high-zero = zero.1.1.0; low-zero = zero.1.1.1 })

pub returns : goal.returns
returns c =
    loaded-whole _ _ c.if-slice-ne-SIZE.false (λ i. (c.type_inv.slice i).fits) c.word.ensures c.word-2.ensures c.load.ensures
