-- `is_blank` meets its contract: both words are zero. Assumes nothing.
use mathlib.Core.Path.{sym, ◌∙◌}
use native.Mathlib.Omega.{arith}
use Rattle.payload.proofs.Laws.{blank-words}
use Rattle.payload.proofs.Payload.is_blank.Goals as goal

pub returns : goal.returns
returns c =
    c.eq.ensures
    ∙ rw (c.default.ensures.0, c.default.ensures.1) (sym (blank-words c.args.self (record { high_fits = omega arith; low_fits = omega arith })))
