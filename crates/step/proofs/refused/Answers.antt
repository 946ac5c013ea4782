-- `refused` meets its contract. Assumes nothing.
use mathlib.Core.Path.{ap}
use native.Mathlib.Omega.{arith}
use Rattle.refusal.specs.Outcome.{refused}
use Rattle.text.specs.Text.{ascii, decimal}
use Rattle.text.proofs.WrittenTexts.{puts, puts-as, ◌then◌}
use Rattle.step.proofs.Answers.{answer-wrote}
use Rattle.step.proofs.refused.Goals as goal

pub returns : goal.returns
unfolding ascii
returns c =
    let word = puts (c.put-a.ensures.value, c.put-a.ensures.out_after) in
    let number = puts-as (ap decimal c.from.ensures) (puts (c.decimal-b.ensures.value, c.decimal-b.ensures.out_after)) in
    let last = puts (c.put.ensures.value, c.put.ensures.out_after) in
    let w = answer-wrote (refused c.from-number.result) (word then number then last) (omega arith) in
    record { value = rw (← c.from-number.ensures) w.0; out_after = rw (← c.from-number.ensures) w.1 }
