-- `collect` meets its contract: the records of the senders before `sender` are well-formed, and the first `count` values are their pool. Assumes nothing.
use mathlib.Core.Path.{◌≡◌}
use mathlib.Core.Bool.{true}
use Prim.Native.Nat.{◌≤◌}
use lib.ListN.{take}
use Rattle.protocol.specs.Trace.{each}
use Rattle.calls.specs.WellFormed.{sender_well_formed}
use Rattle.pool.specs.Pool.{pooled}
use Rattle.pool.proofs.collect.Given as goal

abbrev pub invariant-loop-sender : goal.invariant-loop-sender
invariant-loop-sender l =
    (l.count ≤ l.sender)
    × (each (sender_well_formed l.day.config l.day.records.now) l.sender ≡ true)
    × (take l.count l.values ≡ pooled l.day.config l.day.records.now l.sender)
