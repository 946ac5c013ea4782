-- The C interface: the code of pooling setpoints (R11.2), which codes a host can see (R11.3), and that the setpoint is read back from its code (R11.5). The
-- laws are proved in proofs/Codes.antt.
-- Assumes nothing.
use Rattle.std.specs.Prelude.{◌≡◌, true, List, [], ◌∷◌, ℕ, ◌+◌, ◌-◌, ◌≤◌, ◌<◌, ℤ}
use Rattle.octets.specs.Octets.{Bytes}
use Rattle.refusal.specs.Outcome.{Outcome, refused, done}
use Rattle.config.specs.declared.Config.{Config}
use Rattle.mbrb.specs.Code.{listed}
use Rattle.signed.specs.Signed.{signed, bits_of}
use Rattle.pool.specs.Pool.{setpoint}

-- R11.2: a refusal's code is its number; a setpoint has 65,536 and on top the two bytes that write it, as an unsigned number
abbrev pub setpoint_code : Outcome ℤ → ℕ
setpoint_code (refused number) = number
setpoint_code (done outcome) = 0x1_0000 + bits_of outcome

-- R11.3: its four refusals
unfoldable pub setpoint_refusals : List ℕ
setpoint_refusals = 1 ∷ 20 ∷ 21 ∷ 27 ∷ []

abbrev pub RefusalsListed : Type 0
RefusalsListed = (config : Config) (records : List ℕ) (number : ℕ) → setpoint config records ≡ refused number → listed setpoint_refusals number ≡ true

-- and from 65,536 to 131,071 the codes of setpoints; that the elements of the records are bytes is what their type says. R11.5: the setpoint is what the code
-- less 65,536 writes, read as a signed number of 16 bits.
abbrev pub SetpointReadsBack : Type 0
SetpointReadsBack =
    (config : Config) (records : List ℕ) (outcome : ℤ) → Bytes records → setpoint config records ≡ done outcome
    → (0x1_0000 ≤ setpoint_code (done outcome))
    × (setpoint_code (done outcome) < 0x2_0000)
    × (signed (setpoint_code (done outcome) - 0x1_0000) ≡ outcome)
