-- `Slot::place` meets its contract. Assumes nothing.
use native.Mathlib.Omega.{arith}
use Rattle.config.specs.Config.{slot_place}
use Rattle.config.proofs.Slot.place.Goals as goal

pub returns : goal.returns
unfolding slot_place
returns c = rw (c.from.ensures, c.from-2.ensures, c.from-3.ensures) (omega arith)
