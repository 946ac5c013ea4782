-- `call` meets its contract: the bytes that it gives to the call are the step's. Assumes nothing.
use Rattle.config.specs.Config.{slot_of_day}
use Rattle.bundle.specs.Bundle.{encoded}
use Rattle.step.proofs.call.Goals as goal

pub returns-in-Receive : goal.returns-in-Receive
unfolding encoded slot_of_day
returns-in-Receive c =
    let call = c in
    let made = call in
    record {
      answers_over = rw (made.in-Receive.is, ← made.encode.ensures) call.receive.ensures.value;
      records_after = rw (made.in-Receive.is, ← made.encode.ensures) call.receive.ensures.records_after;
      out_after = rw (made.in-Receive.is, ← made.encode.ensures) call.receive.ensures.out_after;
    }
