-- `open` meets its contract: each turn opens the day at one node. Assumes nothing.
use mathlib.Core.Path.{◌≡◌}
use Rattle.nodes.specs.Nodes.{opened_up_to}
use Rattle.nodes.proofs.open.Given as goal

abbrev pub invariant-loop-node : goal.invariant-loop-node
invariant-loop-node l = l.records ≡ opened_up_to l.config l.node l.initial.records
