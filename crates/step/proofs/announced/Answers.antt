-- `announced` meets its contract. Assumes nothing.
use native.Mathlib.Omega.{arith}
use Rattle.text.specs.Text.{ascii, decimal, spelled}
use Rattle.text.proofs.WrittenTexts.{puts}
use Rattle.step.proofs.announced.Goals as goal

pub returns-in-Ok : goal.returns-in-Ok
unfolding ascii decimal spelled
returns-in-Ok c =
    let w = (puts (c.put.ensures.value, c.put.ensures.out_after)).wrote (omega arith) in
    record { value = rw c.in-Ok.is w.0; out_after = rw c.in-Ok.is w.1 }
