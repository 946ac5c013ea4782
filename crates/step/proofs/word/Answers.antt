-- `word` meets its contract. Assumes nothing.
use Rattle.text.specs.Text.{ascii}
use Rattle.step.proofs.word.Goals as goal

pub returns-in-Kept : goal.returns-in-Kept
unfolding ascii
returns-in-Kept c = rw c.in-Kept.is

pub returns-in-Signed : goal.returns-in-Signed
unfolding ascii
returns-in-Signed c = rw c.in-Signed.is

pub returns-in-Delivered : goal.returns-in-Delivered
unfolding ascii
returns-in-Delivered c = rw c.in-Delivered.is

pub returns-in-Noted : goal.returns-in-Noted
unfolding ascii
returns-in-Noted c = rw c.in-Noted.is
