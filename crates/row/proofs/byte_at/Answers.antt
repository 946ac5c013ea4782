-- `byte_at` meets its contract. Assumes nothing.
use mathlib.Core.Path.{sym, ◌∙◌}
use native.Mathlib.Omega.{arith}
use Rattle.text.proofs.FieldPositions.{number-within}
use Rattle.row.proofs.byte_at.Goals as goal

pub overflow_cast-result : goal.overflow_cast-result
overflow_cast-result c = omega (arith, number-within _ _ _ _ _ (sym c.number_at.ensures ∙ c.in_ok-value.was))
