-- R2.7: ten configurations, each with own number 0 and the least quorum, and what is claimed of each of them; and one whose quorum is any number (R2.11).
-- It is proved in proofs/Tables.antt.
-- Assumes nothing.
use Rattle.std.specs.Prelude.{◌≡◌, Bool, true, false, ◌||◌, ℕ, eqb}
use mathlib.Core.List.{List, [], ◌∷◌, Memᴰ}
use Rattle.config.specs.declared.Config.{Config}
use Rattle.config.specs.Config.{config_for, with_quorum, good, quorum}

-- a row of the list: n, t and d, whether the configuration is good, and its quorum, 0 where it is not
pub record Row : Type 0 where
  pub n : ℕ
  pub t : ℕ
  pub d : ℕ
  pub is_good : Bool
  pub q : ℕ

abbrev row : ℕ → ℕ → ℕ → Bool → ℕ → Row
row n t d is_good q = record { n = n; t = t; d = d; is_good = is_good; q = q }

unfoldable pub tables : List Row
tables =
    row 1 0 0 true 1
    ∷ row 2 0 0 true 2
    ∷ row 4 1 0 true 3
    ∷ row 6 1 1 true 4
    ∷ row 64 21 0 true 43
    ∷ row 64 0 31 true 33
    ∷ row 0 0 0 false 0
    ∷ row 5 1 1 false 0
    ∷ row 64 0 32 false 0
    ∷ row 65 0 0 false 0
    ∷ []

-- the configuration of a row, with the least quorum, on any day
abbrev pub row_config : (row : Row) (day : ℕ) → Config
row_config row day = config_for row.n row.t row.d day

-- one fact that ranges over the list (R17.6)
abbrev pub TablesHold : Type 0
TablesHold = (row : Row) (day : ℕ) → Memᴰ row tables → (good (row_config row day) ≡ row.is_good) × (quorum (row_config row day) ≡ row.q)

-- a row that is bad is so with any quorum
abbrev pub BadWithAnyQuorum : Type 0
BadWithAnyQuorum = (row : Row) (day q : ℕ) → Memᴰ row tables → row.is_good ≡ false → good (with_quorum (row_config row day) q) ≡ false

-- R2.11: with 8 nodes, one fault and one loss a site may choose 5 or 6, and no other number
abbrev pub EightNodesFiveOrSix : Type 0
EightNodesFiveOrSix = (day q : ℕ) → good (with_quorum (config_for 8 1 1 day) q) ≡ (eqb q 5 || eqb q 6)
