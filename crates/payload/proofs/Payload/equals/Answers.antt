-- `equals` meets its contract: payloads are the same where their words are. Assumes nothing.
use mathlib.Core.Path.{sym, ◌∙◌}
use native.Mathlib.Omega.{arith}
use Rattle.payload.proofs.Laws.{same-words}
use Rattle.payload.proofs.Payload.equals.Goals as goal

pub returns : goal.returns
returns c =
    c.eq.ensures
    ∙ sym (same-words c.args.self c.args.other (record { high_fits = omega arith; low_fits = omega arith }) (record { high_fits = omega arith; low_fits = omega arith }))
