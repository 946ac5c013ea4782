-- Where a record lies in the day's buffer: within it, so that it can be borrowed as a part, loaded and stored.
-- Assumes nothing.
use mathlib.Core.Path.{◌≡◌, ◌∙◌}
use mathlib.Core.Bool.{true, cond}
use lib.Dec.{eqb}
use mathlib.Core.List.{List, ◌++◌}
use Prim.Native.Nat.{ℕ, ◌+◌, ◌-◌, ◌≤◌, ◌<◌}
use native.Mathlib.Omega.{arith}
use lib.ListN.{length, take, drop}
use lib.Seq.{drop-drop}
use borrow.Author.Tests.{eq-eqb}
use Rattle.octets.specs.Octets.{part}
use Rattle.octets.proofs.Numbers.{length_part}
use Rattle.config.specs.declared.Config.{Config}
use Rattle.config.specs.Config.{good, in_range, place, record_size, slots, slot_of_day}
use Rattle.config.proofs.Laws.{good-says, in-range}
use Rattle.record.specs.Record.{loaded}
use Rattle.config.specs.declared.Slot.{Slot}
use Rattle.calls.specs.Records.{own_slot, record_at}

-- a part of a record's size is loaded as it is
pub loaded-part : (xs : List ℕ) (i : ℕ) → i + record_size ≤ length xs → loaded (take (i + record_size - i) (drop i xs)) ≡ part i record_size xs
unfolding loaded
loaded-part xs i h =
    let k : i + record_size - i ≡ record_size = omega arith in
    rw (k, eq-eqb (length (part i record_size xs)) record_size (length_part xs i record_size h))

-- and what is stored over it stands in its place
pub stored-part : (xs ys bytes : List ℕ) (i : ℕ) → i + record_size ≤ length xs
    → ys ≡ cond (eqb (length (take (i + record_size - i) (drop i xs))) record_size) bytes (take (i + record_size - i) (drop i xs))
    → take i xs ++ (ys ++ drop (i + record_size - i) (drop i xs)) ≡ take i xs ++ (bytes ++ drop (i + record_size) xs)
stored-part xs ys bytes i h e =
    let k : i + record_size - i ≡ record_size = omega arith in
    let whole = eq-eqb (length (part i record_size xs)) record_size (length_part xs i record_size h) in
    let new : ys ≡ bytes = e ∙ rw (k, whole) in
    rw (new, k, drop-drop record_size i xs)

-- our own sixteen slots are in range
pub own_range : (config : Config) (seq : ℕ) → good config ≡ true → seq < slots → in_range config (own_slot config seq) ≡ true
unfolding slot_of_day
own_range config seq g k = in-range config (own_slot config seq) (good-says config g).known k

-- the record of a slot is the one at its place
pub record-at : (config : Config) (slot : Slot) (records : List ℕ) (start : ℕ) → start ≡ place config slot → part start record_size records ≡ record_at config slot records
unfolding record_at
record-at config slot records start e = rw e
