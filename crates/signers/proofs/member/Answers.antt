-- `signers::member` meets its contract: a word of 64 bits has no node of 64 or more. Assumes nothing.
use mathlib.Core.Path.{refl, sym}
use native.Mathlib.Omega.{arith}
use Rattle.signers.specs.Signers.{member}
use Rattle.signers.proofs.Members.{member_below}
use Rattle.signers.proofs.member.Goals as goal

pub returns-then-node-ge64 : goal.returns-then-node-ge64
returns-then-node-ge64 c = sym (member_below c.args.set 64 c.args.node (omega arith) (omega arith))

pub returns : goal.returns
unfolding member
returns c = refl
