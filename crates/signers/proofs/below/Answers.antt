-- `signers::below` meets its contract: 64 ones shifted down by 64 - n are n ones. Assumes nothing.
use mathlib.Core.Path.{sym, ap}
use native.Mathlib.Omega.{arith}
use Rattle.signers.specs.Signers.{below}
use Rattle.signers.proofs.Members.{below-past, below-shift}
use Rattle.signers.proofs.below.Goals as goal

pub returns-then-n-eq0 : goal.returns-then-n-eq0
unfolding below
returns-then-n-eq0 c = sym (ap below c.if-n-eq0.true)

pub returns-then-n-gt64 : goal.returns-then-n-gt64
returns-then-n-gt64 c = sym (below-past _ (omega (arith, c.if-n-gt64.true)))

pub returns : goal.returns
returns c = below-shift c.args.n (omega (arith, c.if-n-gt64.false))
