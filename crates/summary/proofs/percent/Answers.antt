-- `percent` meets its contract: the whole part of the share is nearest, or the number above it is. Assumes nothing.
use mathlib.Core.Path.{sym, ◌∙◌}
use Prim.Native.Nat.{◌<◌}
use native.Mathlib.Omega.{arith}
use Rattle.std.proofs.lemmas.Cmp.{ranked}
use Rattle.summary.proofs.DisplayNorm.{percent-of-none, nearest-is-percent, below-nearest, half-nearest, above-nearest}
use Rattle.summary.proofs.percent.Goals as goal

pub returns-then-n-eq0 : goal.returns-then-n-eq0
returns-then-n-eq0 c = rw c.if-n-eq0.true (sym (percent-of-none c.args.delivered))

pub returns-in-Less : goal.returns-in-Less
returns-in-Less c =
    let some : 0 < c.args.n = omega arith in
    nearest-is-percent _ _ _ some (below-nearest _ _ _ some (omega arith) (ranked _ _ _ (sym c.in-Less.is ∙ c.cmp.ensures)))

pub returns-in-Equal : goal.returns-in-Equal
returns-in-Equal c =
    let some : 0 < c.args.n = omega arith in
    nearest-is-percent _ _ _ some (half-nearest _ _ _ some (omega arith) (ranked _ _ _ (sym c.in-Equal.is ∙ c.cmp.ensures)))

pub returns-in-Greater : goal.returns-in-Greater
returns-in-Greater c =
    let some : 0 < c.args.n = omega arith in
    nearest-is-percent _ _ _ some (above-nearest _ _ _ some (omega arith) (ranked _ _ _ (sym c.in-Greater.is ∙ c.cmp.ensures)))
