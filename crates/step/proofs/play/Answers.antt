-- `play` meets its contract: it is the call over bytes of its own. Assumes nothing.
use Rattle.step.specs.Step.{records_by}
use Rattle.step.proofs.play.Goals as goal

pub returns : goal.returns
unfolding records_by
returns c = record { answers = c.call.ensures.answers_over; records_after = c.call.ensures.records_after }
