-- `feed_lines` meets its contract: each turn plays one line. Assumes nothing.
use mathlib.Core.Path.{◌≡◌}
use Prim.Native.Nat.{◌-◌, ◌≤◌}
use lib.ListN.{length}
use Rattle.lines.specs.Bytes.{progress}
use Rattle.run.specs.Stream.{out_space}
use Rattle.run.proofs.LineAfterLine.{SoFar}
use Rattle.run.proofs.feed_lines.Given as goal

abbrev pub invariant-loop-fed : goal.invariant-loop-fed
invariant-loop-fed l =
    (l.fed.used ≤ length l.chunk)
    × (length l.out ≡ out_space)
    × SoFar (progress l.fn.run l.fn.line l.fn.records) l.chunk l.initial.out l.fed.used l.fed.run l.line l.records l.fed.len l.out

abbrev pub decreases-loop-fed : goal.decreases-loop-fed
decreases-loop-fed l = length l.chunk - l.fed.used
