-- Laws of the codes: a refusal is one of four, and a setpoint is read back from its code. Assumes nothing.
use mathlib.Core.Path.{◌≡◌, refl, ap, ◌∙◌, subst}
use Prim.Native.Nat.{◌+◌, ◌-◌}
use native.Mathlib.Omega.{arith}
use lib.IntN.{ℤ}
use Rattle.refusal.proofs.Reasons.{Comes, unless-comes}
use Rattle.mbrb.specs.Code.{listed}
use Rattle.signed.specs.Signed.{signed, bits_of}
use Rattle.signed.proofs.Bits.{numbers-read-back}
use Rattle.middle.specs.Middle.{lower_middle}
use Rattle.pool.specs.Pool.{pool, setpoint_reasons, setpoint}
use Rattle.pool.proofs.Range.{outcome_fits}
use Rattle.mbrb_setpoint.specs.Code.{setpoint_refusals, RefusalsListed, SetpointReadsBack}

pub refusals-listed : RefusalsListed
unfolding setpoint setpoint_reasons listed setpoint_refusals
refusals-listed config records number is =
    subst (Comes (listed setpoint_refusals) (λ (z : ℤ). Unit)) is
    (unless-comes (listed setpoint_refusals) (λ (z : ℤ). Unit) (setpoint_reasons config records) (lower_middle (pool config records)) refl tt)

pub setpoint-reads-back : SetpointReadsBack
setpoint-reads-back config records outcome b is =
    let back = numbers-read-back outcome (outcome_fits config records outcome b is) in
    let small = back.1 in
    let bits : 0x1_0000 + bits_of outcome - 0x1_0000 ≡ bits_of outcome = omega arith in
    (omega arith, omega arith, ap signed bits ∙ back.0)
