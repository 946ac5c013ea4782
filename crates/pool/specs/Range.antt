-- R18.2: an outcome is a number of 16 bits, as every setpoint is. It is proved in proofs/Range.antt.
-- Assumes nothing.
use Rattle.std.specs.Prelude.{◌≡◌, List, ℕ, ◌<◌, ℤ}
use Rattle.std.specs.Int.Signed.{mag}
use Rattle.octets.specs.Octets.{Bytes}
use Rattle.refusal.specs.Outcome.{done}
use Rattle.config.specs.declared.Config.{Config}
use Rattle.pool.specs.Pool.{setpoint}

-- `mag` is k both for k and for -1 - k. That the elements of the records are bytes is what their type says.
abbrev pub OutcomeFits : Type 0
OutcomeFits = (config : Config) (records : List ℕ) (outcome : ℤ) → Bytes records → setpoint config records ≡ done outcome → mag outcome < 32768
