-- `open` meets its contract: each turn opens the day at one node. Assumes nothing.
use mathlib.Core.Path.{◌≡◌, refl, ap, ◌∙◌}
use mathlib.Core.List.{List, ◌++◌}
use Prim.Native.Nat.{ℕ, ◌+◌, ◌-◌, ◌*◌, ◌≤◌}
use native.Mathlib.Omega.{arith}
use native.Mathlib.Numerals.{add-one}
use lib.ListN.{take, drop}
use Rattle.config.specs.declared.Config.{Config}
use Rattle.config.specs.Config.{records_size, with_own}
use Rattle.calls.specs.Open.{open_records}
use Rattle.nodes.specs.Nodes.{node_space, records_space, played_nodes, opened_up_to, opened_records}
use Rattle.nodes.proofs.Parts.{part-fits, part_at, part-put}
use Rattle.nodes.proofs.open.Goals as goal
use Rattle.nodes.proofs.open.Goals.{After-from-start}

-- the day opened at one node more
opened-more : (config own : Config) (node size : ℕ) (before records new : List ℕ) → size ≡ records_size config → records ≡ opened_up_to config node before
    → own ≡ with_own config node
    → new ≡ open_records own (take (node_space * node + size - node_space * node) (drop (node_space * node) records))
    → take (node_space * node) records ++ (new ++ drop (node_space * node + size - node_space * node) (drop (node_space * node) records))
    ≡ opened_up_to config (node + 1) before
unfolding opened_up_to
opened-more config own node size before records new long e there opened =
    part-put config node size long records new ∙ rw (add-one node, opened, there, part_at config node size long records, e)

-- a node's part lies within the buffer
room : (c : After-from-start) → node_space * c.from-start.result + c.records_size-size.result ≤ records_space
room c = rw c.from-start.ensures (part-fits _ _ _ _ c.played-node-end.ensures c.records_size-size.ensures c.loop-node-test.true)

pub loop-node-init : goal.loop-node-init
unfolding opened_up_to
loop-node-init c = refl

pub overflow_add-start : goal.overflow_add-start
overflow_add-start c = omega (arith, room (goal.at.overflow_add-start c).After-from-start)

pub slice_bounds-open-end : goal.slice_bounds-open-end
slice_bounds-open-end c = omega (arith, room (goal.at.slice_bounds-open-end c).After-from-start)

pub loop-node-preserved : goal.loop-node-preserved
loop-node-preserved c =
    let opened = rw c.from-start.ensures at c.«open».ensures.records_after in
    rw c.from-start.ensures (opened-more _ _ _ _ _ _ _ c.records_size-size.ensures c.loop-node.invariant c.with_own.ensures opened)

pub returns : goal.returns
unfolding opened_records
returns c =
    let all : c.loop-node.node ≡ played_nodes c.args.config = omega (arith, c.played-node-end.ensures) in
    c.loop-node.invariant ∙ ap (λ (node : ℕ). opened_up_to c.args.config node c.args.records.now) all
