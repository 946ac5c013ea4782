-- `act` meets its contract. Assumes nothing.
use Rattle.text.specs.Text.{ascii}
use Rattle.step.proofs.act.Goals as goal

pub returns-in-Broadcast : goal.returns-in-Broadcast
unfolding ascii
returns-in-Broadcast c = rw c.in-Broadcast.is

pub returns-in-Receive : goal.returns-in-Receive
unfolding ascii
returns-in-Receive c = rw c.in-Receive.is
