-- What `?` passes on: a call that ends by it tells the reason that stopped the call below.
-- Assumes nothing.
use mathlib.Core.Path.{◌≡◌}
use Rattle.std.specs.Prelude.{Result, IsErrAnd}
use Rattle.std.proofs.lemmas.Result.{err_from_is_err_and}
use Rattle.refusal.specs.Outcome.{refused}
use Rattle.refusal.specs.Refusal.{number_of, outcome_of}
use Rattle.refusal.specs.declared.Refusal.{Refusal}

pub passed-on : {A B : Type 0} (says : A → B) (r : Result A Refusal) (reason : Refusal) → IsErrAnd r (λ told. told ≡ reason)
    → outcome_of says r ≡ refused (number_of reason)
passed-on says r reason told = let p = err_from_is_err_and r told in rw (p.1, p.2)
