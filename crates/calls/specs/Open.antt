-- R6.1: opening a day makes every byte of the records zero.
-- Assumes nothing.
use Rattle.std.specs.Prelude.{not, List, [], ◌∷◌, ℕ, length, replicate}
use Rattle.refusal.specs.Outcome.{Outcome, Reason, ◌if◌, unless, after}
use Rattle.config.specs.declared.Config.{Config}
use Rattle.config.specs.Config.{good}
use Rattle.calls.specs.Records.{wrong_size}

module _ (config : Config) (records : List ℕ) where
  -- what it tests
  unfoldable pub open_reasons : List Reason
  open_reasons = (1 if not (good config)) ∷ (20 if wrong_size config records) ∷ []

  -- it gives the records afterwards
  unfoldable pub opened : Outcome (List ℕ)
  opened = unless open_reasons (replicate (length records) 0)

  unfoldable pub open_records : List ℕ
  open_records = after opened (λ zeros. zeros) records
