-- `receive` meets its contract: a malformed record refuses the bundle, and a well-formed one is updated. Assumes nothing.
use mathlib.Core.Path.{sym, ap, ◌∙◌}
use native.Mathlib.Omega.{arith}
use Rattle.record.specs.Record.{encoded_update}
use Rattle.record.proofs.Words.{Fits}
use Rattle.record.proofs.WellFormed.{well-formed-has-state, well-formed-note-reads}
use Rattle.record.proofs.UpdateCases.{received-malformed, received-well-formed, encoded-refused}
use Rattle.record.proofs.Record.receive.Goals as goal
use Rattle.record.proofs.Record.receive.Goals.{Else-not-well_formed, Start}

abbrev start : Else-not-well_formed → Start
start c = (goal.at.Else-not-well_formed c).Start

-- each word fits, as its type says
words-fit : (c : Start) → Fits c.args.self
words-fit c =
    record {
      head-fits = omega arith;
      signers-fits = omega arith;
      payload-fits = record { high_fits = omega arith; low_fits = omega arith };
      note-fits = record { signers-fits = omega arith; zero-fits = omega arith; payload-fits = record { high_fits = omega arith; low_fits = omega arith } };
    }

pub returns-then-not-well_formed : goal.returns-then-not-well_formed
returns-then-not-well_formed c = encoded-refused _ _ (received-malformed _ _ _ _ _ (sym c.well_formed-2.ensures ∙ c.if-not-well_formed.true))

pub update-requires : goal.update-requires
update-requires c =
    let fine = sym c.well_formed-2.ensures ∙ c.if-not-well_formed.false in
    record {
      has_state = well-formed-has-state c.args.self (words-fit (start c)) c.args.config c.args.sender fine;
      note_reads = well-formed-note-reads c.args.self (words-fit (start c)) c.args.config c.args.sender fine;
    }

pub returns : goal.returns
returns c = c.update.ensures ∙ sym (ap encoded_update (received-well-formed _ _ _ _ _ (sym c.well_formed-2.ensures ∙ c.if-not-well_formed.false)))
