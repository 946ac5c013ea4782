-- R18.3: some payloads and what they say. It is proved in proofs/Examples.antt.
-- Assumes nothing.
use Rattle.std.specs.Prelude.{◌≡◌, ℕ, ℤ, pos, negsuc, replicate}
use mathlib.Core.List.{List, [], ◌∷◌, ◌++◌, Memᴰ}
use Rattle.setpoint.specs.Setpoint.{setpoint_in}

-- a payload by its first three bytes, which the last thirteen follow, and the setpoint that it says, if any; `negsuc k` is -1 - k
pub record Row : Type 0 where
  pub payload : List ℕ
  pub says : List ℤ

abbrev row : (tag high low : ℕ) (rest : List ℕ) → List ℤ → Row
row tag high low rest says = record { payload = tag ∷ high ∷ low ∷ rest; says = says }

abbrev zeros : List ℕ
zeros = replicate 13 0

unfoldable pub examples : List Row
examples =
    row 1 0xff 0xfb zeros (negsuc 4 ∷ [])
    ∷ row 1 0 0 zeros (pos 0 ∷ [])
    ∷ row 1 0x7f 0xff zeros (pos 32767 ∷ [])
    ∷ row 1 0x80 0 zeros (negsuc 32767 ∷ [])
    ∷ row 1 0xff 0xfb (replicate 12 0 ++ (1 ∷ [])) []
    ∷ row 1 0xff 0xfb (1 ∷ replicate 12 0) []
    ∷ row 2 0xff 0xfb zeros []
    ∷ row 0 0 0 zeros []
    ∷ []

-- one fact that ranges over the list (R17.6)
abbrev pub ExamplesHold : Type 0
ExamplesHold = (row : Row) → Memᴰ row examples → setpoint_in row.payload ≡ row.says
