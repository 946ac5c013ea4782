-- R18.8: faulty senders do not drag the outcome, as long as at most t of those pooled are faulty. R18.13: correct senders are enough for one. They are proved
-- in proofs/Between.antt. Why 2t + 1 setpoints are asked for is in middle's specs/Sorting.antt.
-- Assumes nothing.
use Rattle.std.specs.Prelude.{◌≡◌, true, false, List, [], ◌∷◌, ℕ, ◌≤◌, ◌<◌, ltb, ℤ, length}
use Rattle.std.specs.Int.Signed.{le_z}
use Rattle.signers.specs.Sets.{NodeSet, count, both}
use Rattle.refusal.specs.Outcome.{done}
use Rattle.config.specs.declared.Config.{Config}
use Rattle.config.specs.Config.{good, records_size}
use Rattle.calls.specs.WellFormed.{all_well_formed}
use Rattle.middle.specs.Middle.{lower_middle}
use Rattle.pool.specs.Pool.{latest, pool, setpoint}

-- the senders that are pooled
unfoldable pub is_pooled : Config → (records : List ℕ) → NodeSet
is_pooled config records sender = ltb 0 (length (latest config records sender))

-- a correct sender that is pooled with this value
pub record PooledFrom (config : Config) (records : List ℕ) (faulty : NodeSet) (value : ℤ) : Type 0 where
  pub sender : ℕ
  pub below : sender < config.n
  pub correct : faulty sender ≡ false
  pub pooled : latest config records sender ≡ value ∷ []

-- Whatever the records are, and whichever nodes are faulty: if at most t of those pooled are, and there is an outcome, then some correct sender's setpoint is at
-- most it, and some correct sender's is at least it.
abbrev pub OutcomeBetween : Type 0
OutcomeBetween =
    (config : Config) (records : List ℕ) (faulty : NodeSet) (outcome : ℤ)
    → count (both faulty (is_pooled config records)) config.n ≤ config.t
    → setpoint config records ≡ done outcome
    → ((low : ℤ) × PooledFrom config records faulty low × (le_z low outcome ≡ true))
    × ((high : ℤ) × PooledFrom config records faulty high × (le_z outcome high ≡ true))

-- R18.13: at most t silent nodes do not keep it from anybody. If every correct sender is pooled, there is an outcome.
abbrev pub CorrectSuffice : Type 0
CorrectSuffice =
    (config : Config) (records : List ℕ) (faulty : NodeSet)
    → good config ≡ true → length records ≡ records_size config → all_well_formed config records ≡ true
    → count faulty config.n ≤ config.t
    → ((sender : ℕ) → sender < config.n → faulty sender ≡ false → is_pooled config records sender ≡ true)
    → setpoint config records ≡ done (lower_middle (pool config records))
