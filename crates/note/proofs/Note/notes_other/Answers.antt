-- `notes_other` meets its contract: the note that its bytes write, by its words. Assumes nothing.
use mathlib.Core.Path.{sym, ap, ◌∙◌}
use mathlib.Core.Bool.{not}
use native.Mathlib.Omega.{arith}
use Rattle.note.proofs.Words.{Fits, other-nothing, other-noted}
use Rattle.note.proofs.Note.notes_other.Goals as goal
use Rattle.note.proofs.Note.notes_other.Goals.{Start}

-- each word fits, as its type says
words-fit : (c : Start) → Fits c.args.self
words-fit c =
    record
    { signers-fits = omega arith; zero-fits = omega arith; payload-fits = record { high_fits = omega arith; low_fits = omega arith } }

pub returns-then-self-eq0 : goal.returns-then-self-eq0
returns-then-self-eq0 c = sym (other-nothing _ (words-fit (goal.at.returns-then-self-eq0 c).Start) _ c.if-self-eq0.true)

pub returns : goal.returns
returns c =
    let start = c in
    ap not c.equals.ensures ∙ sym (other-noted _ (words-fit (goal.at.returns c).Start) _ c.if-self-eq0.false)
