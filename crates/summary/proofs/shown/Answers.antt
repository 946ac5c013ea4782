-- `shown` meets its contract: each turn counts one node. Assumes nothing.
use mathlib.Core.Path.{◌≡◌, refl, sym, ap, ap₂, ◌∙◌}
use mathlib.Core.Bool.{Bool, true, false}
use mathlib.Core.List.{List}
use Prim.Native.Nat.{ℕ, ◌+◌, ◌*◌, ◌≤◌}
use native.Mathlib.Omega.{arith}
use native.Mathlib.Nat.{add-zero}
use native.Mathlib.Numerals.{add-one}
use Rattle.std.specs.Prelude.{Result, Ok, Err, is_ok}
use Rattle.refusal.specs.declared.Refusal.{Refusal}
use Rattle.signers.specs.Sets.{NodeSet, indicator, count}
use Rattle.signers.proofs.Counting.{count-le}
use Rattle.refusal.specs.Outcome.{Outcome, refused, done, after, plain}
use Rattle.refusal.specs.Refusal.{number_of, verdict_of}
use Rattle.refusal.proofs.Reasons.{refused-not-done}
use Rattle.config.specs.declared.Config.{Config}
use Rattle.config.specs.Config.{with_own, slot_of_day}
use Rattle.calls.specs.Showing.{delivered}
use Rattle.nodes.specs.Nodes.{node_space, records_space, records_at, played_nodes}
use Rattle.summary.specs.Summary.{shown_count}
use Rattle.nodes.proofs.Parts.{part-fits, part_at}
use Rattle.summary.proofs.shown.Invariants.{shows}
use Rattle.summary.proofs.shown.Goals as goal
use Rattle.summary.proofs.shown.Goals.{After-is_ok, In-loop-node, then-is_ok, else-is_ok}

-- what the check of a node says of it
ok-after : (r : Result Unit Refusal) (o : Outcome ℕ) → verdict_of r ≡ plain o → after o (λ place. true) false ≡ is_ok r
ok-after (Ok _) (refused number) e = absurd (refused-not-done number tt (sym e))
ok-after (Ok _) (done place) e = refl
ok-after (Err reason) (refused number) e = refl
ok-after (Err reason) (done place) e = absurd (refused-not-done (number_of reason) tt e)

-- one node more
counted-more : (p : NodeSet) (node counted : ℕ) (b : Bool) → p node ≡ b → counted ≡ count p node → counted + indicator b ≡ count p (node + 1)
unfolding count
counted-more p node counted b h e = rw (add-one node, h, e) (omega arith)

-- a node's part lies within the buffer
room : (c : In-loop-node) → node_space * c.loop-node.node + c.records_size-size.result ≤ records_space
room c = part-fits _ _ _ _ c.played-node-end.ensures c.records_size-size.ensures c.loop-node-test.true

-- what the check of the node answers is whether it shows the slot
answered : (c : After-is_ok) → shows c.args.config c.args.sender c.args.seq c.args.records.now c.loop-node.node ≡ c.is_ok.result
unfolding with_own slot_of_day
answered c =
    let a = c.args in
    ok-after c.check_delivered.result (delivered (with_own a.config c.loop-node.node) (slot_of_day a.config a.sender a.seq) (records_at a.config c.loop-node.node a.records.now))
    (c.check_delivered.ensures
    ∙ ap₂ (λ (config : Config) (r : List ℕ). plain (delivered config (slot_of_day config a.sender a.seq) r)) c.with_own.ensures
    (part_at a.config c.loop-node.node _ c.records_size-size.ensures a.records.now))
    ∙ sym c.is_ok.ensures.value

pub loop-node-init : goal.loop-node-init
unfolding count
loop-node-init c = refl

pub overflow_add-own : goal.overflow_add-own
overflow_add-own c = omega (arith, room (goal.at.overflow_add-own c).In-loop-node)

pub slice_bounds-own-end : goal.slice_bounds-own-end
slice_bounds-own-end c = omega (arith, room (goal.at.slice_bounds-own-end c).In-loop-node)

pub overflow_add-count : goal.overflow_add-count
overflow_add-count c =
    let l = c in
    let a = l.args in
    omega (arith, l.loop-node.invariant, count-le (shows a.config a.sender a.seq a.records.now) l.loop-node.node)

pub loop-node-preserved : goal.loop-node-preserved
loop-node-preserved c =
    let told = answered (goal.at.loop-node-preserved c).After-is_ok in
    elim c.if-is_ok.branch [
      | then-is_ok w ↦ w.count-is ∙ counted-more _ _ _ true (told ∙ w.if-is_ok.true) c.loop-node.invariant
      | else-is_ok w ↦ w.count-is ∙ sym (add-zero _) ∙ counted-more _ _ _ false (told ∙ w.if-is_ok.false) c.loop-node.invariant
    ]

pub returns : goal.returns
unfolding shown_count
returns c =
    let e = c.loop-node.invariant in
    let a = c.args in
    let all : c.loop-node.node ≡ played_nodes a.config = omega (arith, c.played-node-end.ensures) in
    e ∙ ap (count (shows a.config a.sender a.seq a.records.now)) all
