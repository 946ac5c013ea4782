-- `send` meets its contract: the record's words are those of its bundle. Assumes nothing.
use mathlib.Core.Path.{◌∙◌}
use native.Mathlib.Omega.{arith}
use borrow.Author.Tests.{eq-eqb}
use Rattle.bundle.specs.Bundle.{encoded}
use Rattle.record.proofs.Words.{Fits, signers-words, payload-words}
use Rattle.calls.specs.Inner.{sent}
use Rattle.calls.proofs.send.Goals as goal
use Rattle.calls.proofs.send.Goals.{Start}

-- each word fits, as its type says
words-fit : (c : Start) → Fits c.args.«record»
words-fit c =
    record {
      head-fits = omega arith;
      signers-fits = omega arith;
      payload-fits = record { high_fits = omega arith; low_fits = omega arith };
      note-fits = record { signers-fits = omega arith; zero-fits = omega arith; payload-fits = record { high_fits = omega arith; low_fits = omega arith } };
    }

pub returns : goal.returns
unfolding sent encoded
returns c =
    let encoding = c in
    let given = c in
    encoding.encode.ensures
    ∙ rw (eq-eqb _ _ given.requires, signers-words given.args.«record» (words-fit (goal.at.returns c).Start), payload-words given.args.«record»)
