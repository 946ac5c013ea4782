-- `Config::slot_of_day` meets its contract. Assumes nothing.
use mathlib.Core.Path.{refl}
use Rattle.config.specs.Config.{slot_of_day}
use Rattle.config.proofs.Config.slot_of_day.Goals as goal

pub returns : goal.returns
unfolding slot_of_day
returns c = refl
