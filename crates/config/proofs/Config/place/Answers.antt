-- `Config::place` meets its contract, by the tests of `good` and of the range. Assumes nothing.
use mathlib.Core.Path.{◌≡◌, sym, ◌∙◌}
use mathlib.Core.Bool.{true}
use borrow.Author.Tests.{le-ltb, lt-ltb}
use Rattle.config.specs.Config.{good, place, in_range}
use Rattle.config.proofs.Config.place.Goals as goal
use Rattle.config.proofs.Config.place.Goals.{Else-not-good, Else-self-slot}

-- ---- the places on the way
abbrev good-place : Else-self-slot → Else-not-good
good-place c = c.before.before.before

good-known : (c : Else-not-good) → good c.args.self ≡ true
good-known c = sym c.good.ensures ∙ c.if-not-good.false

pub returns-then-not-good : goal.returns-then-not-good
unfolding place
returns-then-not-good c = rw (sym c.good.ensures ∙ c.if-not-good.true)

pub returns-then-self-slot : goal.returns-then-self-slot
unfolding place in_range
returns-then-self-slot c = simp (good-known (goal.at.returns-then-self-slot c).Else-not-good, le-ltb _ _ c.if-self-slot.true)

pub returns-then-slot-ge-SLOTS : goal.returns-then-slot-ge-SLOTS
unfolding place in_range
returns-then-slot-ge-SLOTS c = simp (good-known (good-place (goal.at.returns-then-slot-ge-SLOTS c).Else-self-slot), lt-ltb _ _ c.if-self-slot.false, le-ltb _ _ c.if-slot-ge-SLOTS.true)

pub returns : goal.returns
unfolding place in_range
returns c =
    let ranged = c in
    let known = ranged in
    simp (good-known (good-place (goal.at.returns c).Else-self-slot), lt-ltb _ _ known.if-self-slot.false, lt-ltb _ _ ranged.if-slot-ge-SLOTS.false) c.place.ensures
