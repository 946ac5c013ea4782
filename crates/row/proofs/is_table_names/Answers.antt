-- `is_table_names` meets its contract. Assumes nothing.
use Rattle.text.specs.Text.{ascii}
use Rattle.row.specs.Row.{table_names}
use Rattle.row.proofs.is_table_names.Goals as goal

pub returns : goal.returns
unfolding table_names ascii
returns c = c.same.ensures
