-- `end_step_names` meets its contract. Assumes nothing.
use Rattle.std.proofs.Common.{sym, ◌∙◌}
use Rattle.nodes.proofs.Printing.{prints-nothing}
use Rattle.stages.proofs.end_step_names.Goals as goal

pub returns-else-is_step_names-clause-len_value : goal.returns-else-is_step_names-clause-len_value
returns-else-is_step_names-clause-len_value c = rw (sym c.is_step_names.ensures ∙ c.if-is_step_names.false) (prints-nothing _ _).0

pub returns-else-is_step_names-clause-out_after : goal.returns-else-is_step_names-clause-out_after
returns-else-is_step_names-clause-out_after c = rw (sym c.is_step_names.ensures ∙ c.if-is_step_names.false) (prints-nothing _ _).1
