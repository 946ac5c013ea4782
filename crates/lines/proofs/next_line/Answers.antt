-- `next_line` meets its contract: with too few bytes to print to nothing is done. Assumes nothing.
use mathlib.Core.Path.{◌≡◌, refl, sym, ◌∙◌}
use mathlib.Core.List.{List}
use Prim.Native.Nat.{ℕ, ◌+◌}
use native.Mathlib.Nat.{add-zero}
use lib.ListN.{length, take}
use borrow.Author.Tests.{leb-true}
use mathlib.Core.Bool.{true, false}
use Rattle.text.specs.Text.{written}
use Rattle.text.proofs.WriteLaws.{written-empty}
use Rattle.step.specs.Step.{roomy}
use Rattle.lines.specs.declared.Run.{Run}
use Rattle.lines.specs.Bytes.{Progress, after_bytes, bytes_text, progress, used_bytes}
use Rattle.lines.specs.Inner.{UsesLine}
use Rattle.lines.proofs.next_line.Goals as goal

module _ (run : Run) (buffer records chunk : List ℕ) (at : ℕ) (out : List ℕ) where
  abbrev at_first : Progress
  at_first = progress run buffer records

  -- what the function must leave
  abbrev Uses : (next : Run) (after left : List ℕ) (used len : ℕ) (over : List ℕ) → Type 0
  Uses next after left used len over =
      (used ≡ used_bytes at chunk out)
      × ((progress next after left ≡ after_bytes at_first (take used chunk))
      × ((len ≡ at + length (bytes_text at_first (take used chunk))) × (over ≡ written at (bytes_text at_first (take used chunk)) out)))

  -- without room
  used-none : roomy at out ≡ false → Uses run buffer records 0 at out
  unfolding used_bytes after_bytes bytes_text
  used-none full = rw full (refl, (refl, (sym (add-zero at), sym (written-empty at out))))

  -- with room
  used-line : roomy at out ≡ true → (next : Run) (after left : List ℕ) (used len : ℕ) (over : List ℕ)
      → UsesLine run buffer records chunk at out next after left used len over → Uses next after left used len over
  unfolding used_bytes
  used-line room next after left used len over (u, rest) = rw room (u, rw (← u) at rest)

pub returns-then-not-has_room : goal.returns-then-not-has_room
unfolding roomy
returns-then-not-has_room c =
    let a = c.args in
    let (u, (r, (l, o))) = used-none a.run a.line.now a.records.now a.chunk.now a.at a.out.now (sym c.has_room.ensures ∙ c.if-not-has_room.true) in
    record { used_value = u; records_after = r; len_value = l; out_after = o }

pub first_line-requires : goal.first_line-requires
first_line-requires c = leb-true _ _ (sym c.has_room.ensures ∙ c.if-not-has_room.false)

pub returns : goal.returns
unfolding roomy
returns c =
    let a = c.args in
    let (u, (r, (l, o))) = used-line a.run a.line.now a.records.now a.chunk.now a.at a.out.now (sym c.has_room.ensures ∙ c.if-not-has_room.false) _ _ _ _ _ _ c.first_line.ensures in
    record { used_value = u; records_after = r; len_value = l; out_after = o }
