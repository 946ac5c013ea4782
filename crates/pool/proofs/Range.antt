-- Every value of the pool is written by two bytes, and so is the lower middle one. Assumes nothing.
use mathlib.Core.Path.{subst}
use mathlib.Core.Bool.{Bool, true, false, cond}
use mathlib.Core.List.{List, [], ◌∷◌}
use Prim.Native.Nat.{ℕ, zero, suc, ◌+◌, ◌-◌, ◌*◌, ◌/◌, ◌<◌}
use native.Mathlib.Omega.{arith}
use lib.Dec.{ltb}
use lib.IntN.{ℤ}
use lib.ListN.{length}
use lib.Signed.{mag}
use borrow.Author.Tests.{ltb-true, ltb-false, lt-ltb}
use Rattle.octets.specs.Octets.{Bytes, part, number}
use Rattle.octets.proofs.Numbers.{bytes-part}
use Rattle.refusal.specs.Outcome.{Outcome, refused, done, after}
use Rattle.refusal.proofs.Reasons.{done-clear}
use Rattle.config.specs.declared.Config.{Config}
use Rattle.config.specs.declared.Slot.{Slot}
use Rattle.config.specs.Config.{slots, slot_of_day}
use Rattle.calls.specs.Showing.{delivered, delivered_part}
use Rattle.payload.specs.Payload.{payload_size}
use Rattle.signed.specs.Signed.{signed}
use Rattle.signed.proofs.Bits.{signed-fits}
use Rattle.setpoint.specs.Setpoint.{is_setpoint, hundredths, setpoint_in}
use Rattle.middle.specs.Middle.{sorted, lower_middle}
use Rattle.middle.specs.Inner.{Every}
use Rattle.middle.proofs.Sorting.{every-at, every_append, every_take, every-sorted, sorted-length}
use Rattle.pool.specs.Pool.{delivered_setpoint, delivered_setpoints, latest, pooled, pool, setpoint_reasons, setpoint}
use Rattle.pool.specs.Range.{OutcomeFits}

fits : ℤ → Bool
fits z = ltb (mag z) 32768

-- two bytes write a number of 16 bits, and so do fewer
two_bytes : (payload : List ℕ) → Bytes payload → number (part 1 2 payload) < 65536
unfolding number
two_bytes [] b = omega arith
two_bytes (x ∷ []) b = omega arith
two_bytes (x ∷ (y ∷ [])) b = omega (arith, b 1)
two_bytes (x ∷ (y ∷ (z ∷ rest))) b = omega (arith, b 1, b 2)

-- what a payload of bytes says fits
said_fits : (payload : List ℕ) → Bytes payload → Every fits (setpoint_in payload)
unfolding setpoint_in hundredths fits
said_fits payload b = go (is_setpoint payload)
  where
    go : (m : Bool) → Every (λ z. ltb (mag z) 32768) (cond m (signed (number (part 1 2 payload)) ∷ []) [])
    go true = (lt-ltb (mag (signed (number (part 1 2 payload)))) 32768 (signed-fits (number (part 1 2 payload)) (two_bytes payload b)), tt)
    go false = tt

module _ (config : Config) (records : List ℕ) (b : Bytes records) where
  shown-bytes : (slot : Slot) → Bytes (delivered_part config slot records)
  unfolding delivered_part
  shown-bytes slot = go (delivered config slot records)
    where
      go : (outcome : Outcome ℕ) → Bytes (after outcome (λ start. part start payload_size records) [])
      go (refused number) = λ i. omega arith
      go (done start) = bytes-part start payload_size records b

  delivered-fit : (sender bound : ℕ) → Every fits (delivered_setpoints config records sender bound)
  unfolding delivered_setpoints delivered_setpoint
  delivered-fit sender zero = tt
  delivered-fit sender (suc seq) =
      every_append fits (delivered_setpoint config records sender seq) (delivered_setpoints config records sender seq)
      (said_fits (delivered_part config (slot_of_day config sender seq) records) (shown-bytes (slot_of_day config sender seq)))
      (delivered-fit sender seq)

  pooled-fit : (senders : ℕ) → Every fits (pooled config records senders)
  unfolding pooled latest
  pooled-fit zero = tt
  pooled-fit (suc sender) =
      every_append fits (pooled config records sender) (latest config records sender)
      (pooled-fit sender)
      (every_take fits 1 (delivered_setpoints config records sender slots) (delivered-fit sender slots))

pub outcome_fits : OutcomeFits
unfolding setpoint setpoint_reasons lower_middle pool fits
outcome_fits config records outcome b is =
    let clear = done-clear (setpoint_reasons config records) (lower_middle (pool config records)) outcome is in
    let enough = ltb-false (length (pool config records)) (2 * config.t + 1) clear.0.1.1.1.0 in
    let values = pool config records in
    let same = sorted-length values in
    subst (λ (z : ℤ). mag z < 32768) clear.1
    (ltb-true _ 32768 (every-at fits (sorted values) ((length values + 1) / 2 - 1) (every-sorted fits values (pooled-fit config records b config.n)) (omega arith)))
