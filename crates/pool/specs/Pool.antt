-- RULES section 18: one setpoint from what a node has delivered.
-- Assumes nothing.
use Rattle.std.specs.Prelude.{not, List, [], ◌∷◌, ◌++◌, ℕ, zero, suc, ◌+◌, ◌*◌, ltb, ℤ, length, take, Result}
use Rattle.refusal.specs.declared.Refusal.{Refusal}
use Rattle.refusal.specs.Refusal.{outcome_of}
use Rattle.refusal.specs.Outcome.{Outcome, Reason, ◌if◌, unless}
use Rattle.config.specs.declared.Config.{Config}
use Rattle.config.specs.Config.{good, slots, slot_of_day}
use Rattle.calls.specs.Records.{wrong_size}
use Rattle.calls.specs.WellFormed.{all_well_formed}
use Rattle.calls.specs.Showing.{delivered_part}
use Rattle.setpoint.specs.Setpoint.{setpoint_in}
use Rattle.middle.specs.Middle.{lower_middle}

module _ (config : Config) (records : List ℕ) where
  -- R18.4: the setpoint that is delivered in a slot, and none if showing gives no payload there (R9.2) or one that says something else
  unfoldable pub delivered_setpoint : (sender seq : ℕ) → List ℤ
  delivered_setpoint sender seq = setpoint_in (delivered_part config (slot_of_day config sender seq) records)

  -- those of a sender with numbers below a bound, the highest number first
  unfoldable pub delivered_setpoints : (sender bound : ℕ) → List ℤ
  delivered_setpoints sender zero = []
  delivered_setpoints sender (suc seq) = delivered_setpoint sender seq ++ delivered_setpoints sender seq

  -- the one with the highest number, and none if there is none
  unfoldable pub latest : (sender : ℕ) → List ℤ
  latest sender = take 1 (delivered_setpoints sender slots)

  -- R18.5: the latest setpoints of the senders below a bound, and of all
  unfoldable pub pooled : (senders : ℕ) → List ℤ
  pooled zero = []
  pooled (suc sender) = pooled sender ++ latest sender

  unfoldable pub pool : List ℤ
  pool = pooled config.n

  -- R18.7: what it tests
  unfoldable pub setpoint_reasons : List Reason
  setpoint_reasons =
      (1 if not (good config))
      ∷ (20 if wrong_size config records)
      ∷ (21 if not (all_well_formed config records))
      ∷ (27 if ltb (length pool) (2 * config.t + 1))
      ∷ []

  -- R18.6: the lower middle of the pool
  unfoldable pub setpoint : Outcome ℤ
  setpoint = unless setpoint_reasons (lower_middle pool)

-- the outcome of each case, or the number of the refusal (R17.3)
abbrev pub pooling_of : Result ℤ Refusal → Outcome ℤ
pooling_of = outcome_of (λ value. value)
