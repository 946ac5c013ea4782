-- `signers::insert` meets its contract: a node without a bit leaves the word as it is, and for any other the shift loses nothing. Assumes nothing.
use mathlib.Core.Path.{sym, ap, ◌∙◌}
use native.Mathlib.Omega.{arith}
use lib.Bits.{bit_or}
use Rattle.signers.proofs.Members.{node-bit, insert-bit, insert-past}
use Rattle.signers.proofs.insert.Goals as goal

pub returns-then-node-ge64 : goal.returns-then-node-ge64
returns-then-node-ge64 c = sym (insert-past c.args.set c.args.node (omega arith))

pub returns : goal.returns
returns c =
    ap (bit_or c.args.set) (node-bit c.args.node (omega arith))
    ∙ sym (insert-bit c.args.set c.args.node (omega arith))
