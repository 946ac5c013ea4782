-- `is_delivered` meets its contract: the state is the first byte. Assumes nothing.
use native.Mathlib.Omega.{arith}
use Rattle.record.proofs.Words.{Fits, delivered-state}
use Rattle.record.proofs.Record.is_delivered.Goals as goal
use Rattle.record.proofs.Record.is_delivered.Goals.{Start}

-- each word fits, as its type says
words-fit : (c : Start) → Fits c.args.self
words-fit c =
    record {
      head-fits = omega arith;
      signers-fits = omega arith;
      payload-fits = record { high_fits = omega arith; low_fits = omega arith };
      note-fits = record { signers-fits = omega arith; zero-fits = omega arith; payload-fits = record { high_fits = omega arith; low_fits = omega arith } };
    }

pub returns : goal.returns
returns c = delivered-state c.args.self (words-fit (goal.at.returns c).Start)
