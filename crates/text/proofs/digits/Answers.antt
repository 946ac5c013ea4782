-- `digits` meets its contract. Assumes nothing.
use mathlib.Core.Path.{sym, ◌∙◌}
use native.Mathlib.Numerals.{add-one}
use Rattle.text.proofs.DecimalDigits.{decimal-count}
use Rattle.text.proofs.digits.Goals as goal

pub returns : goal.returns
returns c =
    let least = rw c.max.ensures at c.ilog10.ensures.power_le in
    let less = rw c.max.ensures at c.ilog10.ensures.next_power_gt in
    add-one _ ∙ sym (decimal-count _ _ least less c.ilog10.ensures.bound)
