-- `received` meets its contract. Assumes nothing.
use mathlib.Core.Path.{ap}
use native.Mathlib.Omega.{arith}
use Rattle.refusal.specs.Outcome.{done}
use Rattle.record.specs.Record.{answer_of}
use Rattle.text.specs.Text.{ascii, decimal}
use Rattle.text.proofs.WrittenTexts.{puts, puts-as, ◌then◌}
use Rattle.step.proofs.Answers.{word-answer, answer-wrote}
use Rattle.step.proofs.received.Goals as goal

pub returns-in-Ok : goal.returns-in-Ok
unfolding ascii
returns-in-Ok c =
    let word = puts-as c.word.ensures (puts (c.put-a.ensures.value, c.put-a.ensures.out_after)) in
    let count = puts-as (ap decimal c.from.ensures) (puts (c.decimal-b.ensures.value, c.decimal-b.ensures.out_after)) in
    let last = puts (c.put.ensures.value, c.put.ensures.out_after) in
    let told = answer_of c.in-Ok.receipt.answer in
    let w = answer-wrote (done (told, c.in-Ok.receipt.count)) (puts-as (word-answer told c.in-Ok.receipt.count) (word then count then last)) (omega arith) in
    record { value = rw c.in-Ok.is w.0; out_after = rw c.in-Ok.is w.1 }
