-- `well_formed` meets its contract: an empty record is blank, and of any other both halves are asked. Assumes nothing.
use mathlib.Core.Path.{sym, ◌∙◌}
use native.Mathlib.Omega.{arith}
use Rattle.record.proofs.Words.{Fits}
use Rattle.record.proofs.WellFormed.{well-formed-empty, malformed-note, half-well-formed}
use Rattle.record.proofs.Record.well_formed.Goals as goal
use Rattle.record.proofs.Record.well_formed.Goals.{After-well_formed-2, Start}

-- the start, from where the note has been asked
abbrev start : After-well_formed-2 → Start
start c = (goal.at.After-well_formed-2 c).Start

-- each word fits, as its type says
words-fit : (c : Start) → Fits c.args.self
words-fit c =
    record {
      head-fits = omega arith;
      signers-fits = omega arith;
      payload-fits = record { high_fits = omega arith; low_fits = omega arith };
      note-fits = record { signers-fits = omega arith; zero-fits = omega arith; payload-fits = record { high_fits = omega arith; low_fits = omega arith } };
    }

pub returns-then-self-eq0 : goal.returns-then-self-eq0
returns-then-self-eq0 c = c.is_blank.ensures ∙ sym (well-formed-empty _ (words-fit (goal.at.returns-then-self-eq0 c).Start) _ _ c.if-self-eq0.true)

pub returns-then-not-well_formed : goal.returns-then-not-well_formed
returns-then-not-well_formed c = sym (malformed-note _ (words-fit (start (goal.at.returns-then-not-well_formed c).After-well_formed-2)) _ _ (sym c.well_formed-2.ensures ∙ c.if-not-well_formed.true))

pub returns : goal.returns
returns c =
    let asked = c in
    let fine = sym asked.well_formed-2.ensures ∙ c.if-not-well_formed.false in
    cc (half-well-formed asked.args.self (words-fit (start (goal.at.returns c).After-well_formed-2)) asked.args.config asked.args.sender fine asked.if-self-eq0.false)
