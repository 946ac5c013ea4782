-- A row is printed if there is room for any, and else not.
-- Assumes nothing.
use mathlib.Core.Path.{◌≡◌, ◌∙◌}
use mathlib.Core.Bool.{true, false}
use mathlib.Core.List.{List}
use Prim.Native.Nat.{ℕ, ◌+◌, ◌≤◌}
use native.Mathlib.Omega.{arith}
use lib.ListN.{length}
use lib.Dec.{leb}
use borrow.Author.Tests.{leb-true}
use Rattle.text.proofs.WrittenTexts.{Puts}
use Rattle.step.specs.Step.{row_space, roomy, printed_over, printed_end}

module _ (at : ℕ) (row out : List ℕ) where
  pub printed-not : leb (at + row_space) (length out) ≡ false → (at ≡ printed_end at row out) × (out ≡ printed_over at row out)
  unfolding printed_end printed_over roomy
  printed-not none = (rw none, rw none)

  pub printed : (stop : ℕ) (after : List ℕ) → length row ≤ row_space → leb (at + row_space) (length out) ≡ true → Puts at row out stop after
      → (stop ≡ printed_end at row out) × (after ≡ printed_over at row out)
  unfolding printed_end printed_over roomy
  printed stop after short some p =
      let w = p.wrote (omega (arith, leb-true _ _ some)) in
      (w.0 ∙ rw some, w.1 ∙ rw some)
