-- `spell` meets its contract: the digits still to be written and those that stand already are always the number's. Assumes nothing.
use mathlib.Core.Path.{◌≡◌, sym, ap, ◌∙◌}
use mathlib.Core.List.{◌++◌}
use Prim.Native.Nat.{ℕ}
use native.Mathlib.Omega.{arith}
use lib.ListN.{drop}
use Rattle.text.proofs.DecimalDigits.{last_digits, last_before, last-all, last_none}
use Rattle.text.proofs.spell.Goals as goal

pub loop-i-init : goal.loop-i-init
loop-i-init c = last-all _ _ c.requires

pub loop-i-preserved : goal.loop-i-preserved
loop-i-preserved c = last_before _ _ c.loop-i.out (omega arith) (omega arith) ∙ c.loop-i.invariant

pub returns : goal.returns
returns c =
    let none : c.loop-i.i ≡ 0 = omega arith in
    sym (last_none c.loop-i.rest c.loop-i.out) ∙ ap (λ (k : ℕ). last_digits k c.loop-i.rest ++ drop k c.loop-i.out) (sym none) ∙ c.loop-i.invariant
