-- `load` meets its contract: 16 bytes are their two words. Assumes nothing.
use Rattle.payload.specs.Payload.{bytes}
use Rattle.payload.proofs.Laws.{loaded-whole, loaded-other}
use Rattle.payload.proofs.load.Goals as goal

pub returns-then-slice-ne-SIZE : goal.returns-then-slice-ne-SIZE
returns-then-slice-ne-SIZE c = loaded-other _ _ c.if-slice-ne-SIZE.true c.default.ensures.0 c.default.ensures.1

pub returns : goal.returns
unfolding bytes
returns c =
    rw (c.word.ensures, c.word-2.ensures, c.if-slice-ne-SIZE.false)
    (loaded-whole _ c.if-slice-ne-SIZE.false (λ i. (c.type_inv.slice i).fits))
