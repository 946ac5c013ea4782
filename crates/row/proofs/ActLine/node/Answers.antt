-- `node` meets its contract. Assumes nothing.
use mathlib.Core.Path.{sym, ◌∙◌}
use native.Mathlib.Omega.{arith}
use borrow.Author.Tests.{lt-ltb}
use Rattle.text.proofs.FieldPositions.{NumberRead, number_read, number-missing}
use Rattle.row.specs.Row.{node, in_system}
use Rattle.row.specs.RowParts.{node_in}
use Rattle.row.proofs.Choices.{chosen}
use Rattle.row.proofs.RowParts.{node-refused}
use Rattle.row.proofs.ActLine.node.Goals as goal
use Rattle.row.proofs.ActLine.node.Goals.{In_ok-node}

number : (c : In_ok-node) → NumberRead 255 1 c.args.self.line.now c.in_ok-node.node c.in_ok-node.next
number c = number_read 255 (record { here = c.args.self.after_act }) c.byte_at.ensures c.in_ok-node.was

pub returns-in_err-node : goal.returns-in_err-node
returns-in_err-node c =
    c.from_residual.ensures
    ∙ node-refused _ _ (λ f. number-missing 255 (record { here = c.args.self.after_act }) c.byte_at.ensures c.in_err-node.was f.plain)

pub returns-then-self-node : goal.returns-then-self-node
unfolding node
returns-then-self-node c =
    node-refused _ _ (λ f. omega (arith, f.below, (number (goal.at.returns-then-self-node c).In_ok-node).is, c.if-self-node.true))

pub returns : goal.returns
unfolding node_in in_system node
returns c =
    let read = number (goal.at.returns c).In_ok-node in
    sym c.in_ok-node.was ∙ c.byte_at.ensures
    ∙ chosen (in_system _ c.args.self.line.now) _ _ (rw (read.plain, read.is) (lt-ltb _ _ c.if-self-node.false))
