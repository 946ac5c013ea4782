-- A text printed over a buffer from an index on, where the buffer has room for any row there and else not at all: nothing, the same by another name,
-- where there is room, and where there is none. From the definitions of step's specs/Step.antt.
-- Assumes nothing.
use mathlib.Core.Path.{◌≡◌, refl, sym, ap, ◌∙◌}
use mathlib.Core.Bool.{Bool, true, false, cond}
use mathlib.Core.List.{List, []}
use Prim.Native.Nat.{ℕ, ◌+◌, ◌≤◌}
use native.Mathlib.Nat.{add-zero}
use lib.ListN.{length}
use borrow.Author.Tests.{le-leb}
use Rattle.text.specs.Text.{written}
use Rattle.text.proofs.WriteLaws.{written-empty}
use Rattle.step.specs.Step.{row_space, roomy, printed_over, printed_end}

module _ (at : ℕ) (out : List ℕ) where
  -- a text is printed, and ends at `len`
  abbrev pub Prints : (text : List ℕ) (len : ℕ) (over : List ℕ) → Type 0
  Prints text len over = (len ≡ printed_end at text out) × (over ≡ printed_over at text out)

  -- nothing is printed,
  pub prints-nothing : Prints [] at out
  unfolding printed_end printed_over
  prints-nothing = go (roomy at out)
    where
      go : (b : Bool) → (at ≡ cond b (at + length {A = ℕ} []) at) × (out ≡ cond b (written at [] out) out)
      go true = (rw (add-zero at), rw (written-empty at out))
      go false = (refl, refl)

  -- or the same by another name
  pub prints-as : {text other : List ℕ} → text ≡ other → {len : ℕ} {over : List ℕ} → Prints text len over → Prints other len over
  prints-as e (l, o) = (l ∙ ap (λ (text : List ℕ). printed_end at text out) e, o ∙ ap (λ (text : List ℕ). printed_over at text out) e)

  -- with room for any row
  pub printed-fits : (text : List ℕ) → at + row_space ≤ length out → (printed_end at text out ≡ at + length text) × (printed_over at text out ≡ written at text out)
  unfolding printed_end printed_over roomy
  printed-fits text room = let some = le-leb (at + row_space) (length out) room in (rw some, rw some)

  -- and without
  pub unprinted : roomy at out ≡ false → (text : List ℕ) → Prints text at out
  unfolding printed_end printed_over
  unprinted none text = rw none (refl, refl)

  -- so nothing is printed where the text is empty or has no room, and else it ends further on
  pub nothing_ends : {len : ℕ} {over : List ℕ} → Prints [] len over → (len ≡ at) × (over ≡ out)
  nothing_ends (l, o) = (l ∙ sym prints-nothing.0, o ∙ sym prints-nothing.1)

  pub unprinted-ends : roomy at out ≡ false → (text : List ℕ) {len : ℕ} {over : List ℕ} → Prints text len over → (len ≡ at) × (over ≡ out)
  unprinted-ends none text (l, o) = (l ∙ sym (unprinted none text).0, o ∙ sym (unprinted none text).1)

  pub printed-ends : roomy at out ≡ true → (text : List ℕ) {len : ℕ} {over : List ℕ} → Prints text len over → len ≡ at + length text
  unfolding printed_end
  printed-ends some text (l, o) = l ∙ rw some
