-- `Config::with_own` meets its contract. Assumes nothing.
use Rattle.config.specs.Config.{with_own}
use Rattle.config.proofs.Config.with_own.Goals as goal

pub returns : goal.returns
unfolding with_own
returns c = c.new.ensures
