-- `encode_like` meets its contract: the first of the four words is the other bundle's. Assumes nothing.
use Rattle.bundle.proofs.Fields.{filled-like, like-none}
use Rattle.bundle.proofs.encode_like.Goals as goal

pub returns-then-bundle-ne-SIZE : goal.returns-then-bundle-ne-SIZE
returns-then-bundle-ne-SIZE c = like-none _ _ _ _ c.if-bundle-ne-SIZE.true

pub returns : goal.returns
returns c =
    let written = c in
    let parted = written in
    let sized = parted in
    filled-like _ _ _ _ _ _ sized.if-bundle-ne-SIZE.false (λ i. (sized.shared_slice_known-1.given i).fits) parted.word-slot.ensures written.fill.ensures
