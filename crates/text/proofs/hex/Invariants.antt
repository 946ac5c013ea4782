-- `hex` meets its contract: the bytes so far are hexadecimal digits. The table's rule is shown at all of its entries by computing them.
-- Assumes nothing.
use mathlib.Core.Path.{◌≡◌}
use mathlib.Core.Bool.{true}
use lib.ListN.{take}
use Rattle.text.specs.Text.{only, hex_digit}
use Rattle.text.specs.Text as spec
use Rattle.text.proofs.hex.Given as goal

abbrev pub invariant-loop-byte : goal.invariant-loop-byte
invariant-loop-byte l = (only hex_digit (take l.byte-index l.text) ≡ true) × (l.value ≡ spec.value 16 0 (take l.byte-index l.text))
