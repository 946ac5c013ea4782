-- `is_blank` meets its contract: each word is zero. Assumes nothing.
use native.Mathlib.Omega.{arith}
use Rattle.std.proofs.lemmas.Grind.{common_steps}
use Rattle.block.proofs.Laws.{Fits, blank-words}
use Rattle.block.proofs.Block.is_blank.Goals as goal
use Rattle.block.proofs.Block.is_blank.Goals.{Start}

-- each word fits, as its type says
words-fit : (c : Start) → Fits c.args.self
words-fit c =
    record
    { first_fits = omega arith; second_fits = omega arith; payload-fits = record { high_fits = omega arith; low_fits = omega arith } }

pub returns-then-self-eq0-3 : goal.returns-then-self-eq0-3
returns-then-self-eq0-3 c = rw (blank-words c.args.self (words-fit (goal.at.returns-then-self-eq0-3 c).Start)) (grind (arith, common_steps))

pub returns-else-self-eq0-3 : goal.returns-else-self-eq0-3
returns-else-self-eq0-3 c = rw (blank-words c.args.self (words-fit (goal.at.returns-else-self-eq0-3 c).Start)) (grind (arith, common_steps))
