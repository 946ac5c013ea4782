-- `search` meets its contract: from the number at which the loop stands, the search finds what it finds from 0 on. Assumes nothing.
use mathlib.Core.Path.{◌≡◌}
use Prim.Native.Nat.{ℕ, ◌+◌}
use Rattle.config.specs.Config.{slots}
use Rattle.calls.specs.Broadcast.{search as search_of}
use Rattle.calls.proofs.search.Given as goal

abbrev pub invariant-loop-seq : goal.invariant-loop-seq
invariant-loop-seq l =
    (left : ℕ) → l.seq + left ≡ slots → search_of l.day.config l.day.records.now l.seq left ≡ search_of l.day.config l.day.records.now 0 slots
