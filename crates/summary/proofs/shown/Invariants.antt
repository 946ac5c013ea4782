-- `shown` meets its contract: each turn counts one node. Assumes nothing.
use mathlib.Core.Path.{◌≡◌}
use mathlib.Core.Bool.{true, false}
use mathlib.Core.List.{List}
use Prim.Native.Nat.{ℕ}
use Rattle.signers.specs.Sets.{NodeSet, count}
use Rattle.refusal.specs.Outcome.{after}
use Rattle.config.specs.declared.Config.{Config}
use Rattle.config.specs.Config.{with_own, slot_of_day}
use Rattle.calls.specs.Showing.{delivered}
use Rattle.nodes.specs.Nodes.{records_at}
use Rattle.summary.proofs.shown.Given as goal

-- which nodes show the slot
abbrev pub shows : (config : Config) (sender seq : ℕ) (records : List ℕ) → NodeSet
shows config sender seq records node = after (delivered (with_own config node) (slot_of_day config sender seq) (records_at config node records)) (λ place. true) false

abbrev pub invariant-loop-node : goal.invariant-loop-node
invariant-loop-node l = l.count ≡ count (shows l.config l.sender l.seq l.records) l.node
