-- `join` meets its contract: the cases of receiving on a record that holds the payload. Assumes nothing.
use mathlib.Core.Path.{sym}
use Rattle.record.proofs.UpdateCases.{update-full, update-kept, encoded-delivered, encoded-held}
use Rattle.record.proofs.join.Goals as goal

pub returns-then-quorum-size : goal.returns-then-quorum-size
returns-then-quorum-size c =
    let known = c in
    encoded-delivered _ _ _ _ _ _ _ known.union-joined.ensures (sym known.requires)
    (update-full _ _ _ _ _ _ (rw (c.quorum.ensures, c.size.ensures, known.union-joined.ensures) at c.if-quorum-size.true))
    c.delivered.ensures

pub returns : goal.returns
returns c =
    let known = c in
    encoded-held _ _ _ _ _ _ _ known.union-joined.ensures (sym known.requires) _
    (update-kept _ _ _ _ _ _ (rw (c.quorum.ensures, c.size.ensures, known.union-joined.ensures) at c.if-quorum-size.false))
    c.holding.ensures
