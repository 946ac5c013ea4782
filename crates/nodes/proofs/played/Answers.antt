-- `played` meets its contract. Assumes nothing.
use borrow.Author.Tests.{le-leb, lt-leb}
use Rattle.nodes.specs.Nodes.{played_nodes}
use Rattle.nodes.proofs.played.Goals as goal

pub returns-then-config-gt-NODES : goal.returns-then-config-gt-NODES
unfolding played_nodes
returns-then-config-gt-NODES c = rw (lt-leb _ _ c.if-config-gt-NODES.true)

pub returns : goal.returns
unfolding played_nodes
returns c = rw (le-leb _ _ c.if-config-gt-NODES.false)
