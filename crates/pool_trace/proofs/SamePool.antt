-- Slots delivered alike give the same pool. From the definitions of pool's specs/Pool.antt.
-- Assumes nothing.
use mathlib.Core.Path.{◌≡◌, refl, ap, ap₂, ◌∙◌}
use mathlib.Core.List.{List, ◌++◌}
use Prim.Native.Nat.{ℕ, zero, suc, ◌<◌}
use native.Mathlib.Nat.{le_step, lt-suc_self}
use lib.ListN.{take}
use Rattle.config.specs.declared.Config.{Config}
use Rattle.config.specs.Config.{slots}
use Rattle.pool.specs.Pool.{delivered_setpoint, delivered_setpoints, latest, pooled, pool}

-- ---- two buffers in which the setpoints delivered are the same

module _ (config other : Config) (records buffer : List ℕ) where
  delivered-same : (sender bound : ℕ) → ((seq : ℕ) → seq < bound → delivered_setpoint config records sender seq ≡ delivered_setpoint other buffer sender seq)
      → delivered_setpoints config records sender bound ≡ delivered_setpoints other buffer sender bound
  unfolding delivered_setpoints
  delivered-same sender zero each = refl
  delivered-same sender (suc seq) each = ap₂ ◌++◌ (each seq (lt-suc_self seq)) (delivered-same sender seq (λ k l. each k (le_step l)))

  latest-same : (sender : ℕ) → ((seq : ℕ) → seq < slots → delivered_setpoint config records sender seq ≡ delivered_setpoint other buffer sender seq)
      → latest config records sender ≡ latest other buffer sender
  unfolding latest
  latest-same sender each = ap (take 1) (delivered-same sender slots each)

  pooled-same : (senders : ℕ)
      → ((sender seq : ℕ) → sender < senders → seq < slots → delivered_setpoint config records sender seq ≡ delivered_setpoint other buffer sender seq)
      → pooled config records senders ≡ pooled other buffer senders
  unfolding pooled
  pooled-same zero each = refl
  pooled-same (suc sender) each =
      ap₂ ◌++◌ (pooled-same sender (λ k seq l. each k seq (le_step l))) (latest-same sender (λ seq. each sender seq (lt-suc_self sender)))

  pub pool-same : config.n ≡ other.n
      → ((sender seq : ℕ) → sender < config.n → seq < slots → delivered_setpoint config records sender seq ≡ delivered_setpoint other buffer sender seq)
      → pool config records ≡ pool other buffer
  unfolding pool
  pool-same e each = pooled-same config.n each ∙ ap (pooled other buffer) e
