-- `first_number` meets its contract: the first i bytes are digits, and write a number of at most the limit. Assumes nothing.
use mathlib.Core.Path.{◌≡◌}
use mathlib.Core.Bool.{true}
use Prim.Native.Nat.{◌+◌, ◌≤◌}
use lib.ListN.{length, take, drop}
use Rattle.text.specs.Text.{before, space, only, digit}
use Rattle.text.specs.Text as spec
use Rattle.text.proofs.first_number.Given as goal

abbrev pub invariant-loop-i : goal.invariant-loop-i
invariant-loop-i l =
    (before space l.text ≡ l.i + before space (drop l.i l.text))
    × (only digit (take l.i l.text) ≡ true)
    × (l.value ≡ spec.value 10 0 (take l.i l.text))
    × (l.value ≤ l.limit)
    × (l.len ≡ length l.text)
