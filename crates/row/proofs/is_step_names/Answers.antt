-- `is_step_names` meets its contract. Assumes nothing.
use Rattle.text.specs.Text.{ascii}
use Rattle.row.specs.Row.{step_names}
use Rattle.row.proofs.is_step_names.Goals as goal

pub returns : goal.returns
unfolding step_names ascii
returns c = c.same.ensures
