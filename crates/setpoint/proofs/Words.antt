-- What a payload says, by its two words. Assumes nothing.
use mathlib.Core.Path.{◌≡◌, ap, ap₂, ◌∙◌}
use mathlib.Core.Bool.{cond, ◌&&◌}
use mathlib.Core.List.{[], ◌∷◌}
use Prim.Native.Nat.{ℕ, ◌+◌, ◌*◌, ◌/◌, ◌%◌}
use native.Mathlib.Omega.{arith}
use lib.Dec.{eqb}
use Rattle.octets.specs.Octets.{bytes_of, number}
use Rattle.octets.proofs.Same.{blank-append, blank-bytes_of, blank-low}
use Rattle.payload.specs.declared.Payload.{Payload}
use Rattle.payload.specs.Payload.{bytes}
use Rattle.payload.proofs.Laws.{Fits}
use Rattle.signed.specs.Signed.{signed}
use Rattle.setpoint.specs.Setpoint.{is_setpoint, hundredths, setpoint_in}

-- where the tag stands in the high word, and what comes after the value
abbrev pub top : ℕ
top = 0x100_0000_0000_0000

abbrev pub rest : ℕ
rest = 0x100_0000_0000

module _ (p : Payload) (fits : Fits p) where
  -- it is a setpoint if the tag is 1, and what comes after the value is zero, and so is the low word
  pub is-setpoint-words : is_setpoint (bytes p) ≡ (eqb (p.high / top % 256) 1 && (eqb (p.high % rest) 0 && eqb p.low 0))
  unfolding is_setpoint bytes bytes_of
  is-setpoint-words =
      ap (λ others. eqb (p.high / top % 256) 1 && others)
      (blank-append (bytes_of 5 p.high) (bytes_of 8 p.low) ∙ ap₂ ◌&&◌ (blank-low 5 p.high) (blank-bytes_of 8 p.low fits.low_fits))

  pub hundredths-words : hundredths (bytes p) ≡ signed (p.high / 0x1_0000_0000_0000 % 256 * 256 + p.high / rest % 256)
  unfolding hundredths bytes bytes_of number
  hundredths-words = ap signed (omega arith)

  -- so what it says is found by its words
  pub said-words : setpoint_in (bytes p)
      ≡ cond (eqb (p.high / top % 256) 1 && (eqb (p.high % rest) 0 && eqb p.low 0)) (signed (p.high / 0x1_0000_0000_0000 % 256 * 256 + p.high / rest % 256) ∷ []) []
  unfolding setpoint_in
  said-words = ap₂ (λ passes value. cond passes (value ∷ []) []) is-setpoint-words hundredths-words
