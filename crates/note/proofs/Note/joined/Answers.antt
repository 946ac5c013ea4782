-- `joined` meets its contract: the signers of a note are those of its word, noted or not. Assumes nothing.
use mathlib.Core.Path.{◌∙◌}
use native.Mathlib.Omega.{arith}
use Rattle.note.proofs.Words.{Fits, noted-signers}
use Rattle.note.proofs.Note.joined.Goals as goal
use Rattle.note.proofs.Note.joined.Goals.{Start}

-- each word fits, as its type says
words-fit : (c : Start) → Fits c.args.self
words-fit c =
    record
    { signers-fits = omega arith; zero-fits = omega arith; payload-fits = record { high_fits = omega arith; low_fits = omega arith } }

pub returns : goal.returns
returns c = c.noted.ensures ∙ rw (c.union.ensures, noted-signers c.args.self (words-fit (goal.at.returns c).Start))
