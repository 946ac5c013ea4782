-- What the private functions of this crate promise each other. A reader may pass it over.
-- Assumes nothing.
use Rattle.std.specs.Prelude.{cond, List, ℕ, Option, Some, None}
use Rattle.text.specs.Text.{hex, number_at}
use Rattle.payload.specs.declared.Payload.{Payload}
use Rattle.row.specs.Row.{payload_of_digits, in_system}

-- the node of a step row, where it starts at index 2 and is one of n nodes
unfoldable pub node_in : (n : ℕ) (line : List ℕ) → Option (ℕ × ℕ)
node_in n line = cond (in_system n line) (number_at 255 line 2) None

-- 32 digits read as a payload
unfoldable pub hex_payload_in : (digits : List ℕ) → Option Payload
hex_payload_in digits = cond (hex 32 digits) (Some (payload_of_digits digits)) None
