-- R18.1 and R18.2: which payloads, called bodies in the formats, say a setpoint, and which.
-- Assumes nothing.
use Rattle.std.specs.Prelude.{Bool, cond, ◌&&◌, List, [], ◌∷◌, ℕ, eqb, ℤ, get_or, Option, Some, None}
use Rattle.octets.specs.Octets.{part, number, blank}
use Rattle.signed.specs.Signed.{signed}

-- R18.1: byte 0 is 1, and bytes 3 to 15 are zero
unfoldable pub is_setpoint : (payload : List ℕ) → Bool
is_setpoint payload = eqb (get_or payload 0 0) 1 && blank (part 3 13 payload)

-- R18.2: bytes 1 and 2, high byte first, as a signed number; it counts hundredths of a degree Celsius
unfoldable pub hundredths : (payload : List ℕ) → ℤ
hundredths payload = signed (number (part 1 2 payload))

-- the setpoint that a payload says, and none if it says something else
unfoldable pub setpoint_in : (payload : List ℕ) → List ℤ
setpoint_in payload = cond (is_setpoint payload) (hundredths payload ∷ []) []

-- the value of each case (R17.3)
abbrev pub value_in : Option ℤ → List ℤ
value_in (Some z) = z ∷ []
value_in None = []
