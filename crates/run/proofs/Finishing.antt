-- The end of the input as the program has it: with nothing held the last rows follow, and else the line that is held ends first. From the definitions of
-- specs/Stream.antt and the lengths of what is printed.
-- Assumes nothing.
use mathlib.Core.Path.{◌≡◌, refl, sym, ap, ap₂, ◌∙◌}
use mathlib.Core.Bool.{false}
use mathlib.Core.List.{List, [], ◌∷◌, ◌++◌}
use Prim.Native.Nat.{ℕ, zero, suc, ◌+◌, ◌≤◌, ◌<◌}
use native.Mathlib.Nat.{zero-add}
use native.Mathlib.Omega.{arith}
use lib.ListN.{length, take, length-append}
use Rattle.text.specs.Text.{ascii, empty, written}
use Rattle.text.proofs.WriteLaws.{length-written, written_then}
use Rattle.summary.specs.Summary.{shown_count, summary_space}
use Rattle.summary.proofs.LastRows.{summary-length}
use Rattle.stages.specs.declared.State.{State}
use Rattle.stages.specs.declared.Stage.{Stage}
use Rattle.stages.specs.declared.Stage.TheVariants.{TableNames, TableRow, StepNames, Steps, NoTable}
use Rattle.stages.specs.Stages.{line_space, line_text}
use Rattle.stages.proofs.LineEnds as stages
use Rattle.stages.proofs.LineEnds.{line-length}
use Rattle.lines.specs.declared.Run.{Run}
use Rattle.lines.specs.Bytes.{Progress, after_line_end, line_end_text, held_bytes, progress}
use Rattle.lines.proofs.Pieces.{with_line}
use Rattle.lines.proofs.FirstLine.{writes-printed}
use Rattle.run.specs.Run.{no_table}
use Rattle.run.specs.Stream.{out_space, closing_text_at, closing_text, finished_text, finished_records}

-- how much is printed after the last line
pub closing-length : (state : State) (records : List ℕ) → state.config.n < 256 → length (closing_text state records) ≤ summary_space
unfolding closing_text no_table ascii
closing-length state records few = go state.stage
  where
    go : (stage : Stage) → length (closing_text_at state stage records) ≤ summary_space
    go TableNames = omega arith
    go TableRow = omega arith
    go StepNames = omega arith
    go Steps = summary-length state.config (shown_count state.config records) few
    go NoTable = omega arith

-- some of a text that is not empty is not empty
some-held : (held : ℕ) (buffer : List ℕ) → (held ≡ 0 → ⊥) → 0 < length buffer → empty (take held buffer) ≡ false
unfolding empty
some-held zero buffer some long = absurd (some refl)
some-held (suc held) [] some long = absurd (omega arith)
some-held (suc held) (b ∷ bs) some long = refl

-- with something held the line ends too
ended-too : (p : Progress) → empty p.line ≡ false
    → (finished_text p ≡ line_end_text p ++ closing_text (after_line_end p).state (after_line_end p).records) × (finished_records p ≡ (after_line_end p).records)
unfolding finished_text finished_records
ended-too p e = (rw e, rw e)

module _ (run : Run) (buffer records out : List ℕ) (size : length out ≡ out_space) (held : ℕ) (few : held ≡ held_bytes run) where
  abbrev at_last : Progress
  at_last = progress run buffer records

  -- what the program must leave at the end
  abbrev pub Finishes : (len : ℕ) (over left : List ℕ) → Type 0
  Finishes len over left =
      (len ≡ length (finished_text at_last)) × ((over ≡ written 0 (finished_text at_last) out) × ((left ≡ finished_records at_last) × (len ≤ length over)))

  last_line : at_last ≡ with_line run.state records (take held buffer)
  unfolding progress
  last_line = ap (λ (k : ℕ). with_line run.state records (take k buffer)) (sym few)

  -- nothing is held
  pub finishes-none : held ≡ 0 → run.state.config.n < 256 → (len : ℕ) (over : List ℕ) → len ≡ 0 + length (closing_text run.state records)
      → over ≡ written 0 (closing_text run.state records) out → Finishes len over records
  unfolding finished_text finished_records empty
  finishes-none none small len over l o =
      let text : List ℕ = closing_text run.state records in
      let p : at_last ≡ with_line run.state records [] = last_line ∙ rw none in
      let long : length over ≡ length out = ap length o ∙ length-written 0 text out in
      let fits : len ≤ length over = omega (arith, l, long, size, closing-length run.state records small) in
      rw p (l ∙ zero-add (length text), (o, (refl, fits)))

  -- or the line that is held ends
  pub finishes-line : (held ≡ 0 → ⊥) → length buffer ≡ line_space
      → (next : State) → next.config.n < 256 → (left : List ℕ) (len : ℕ) (over : List ℕ)
      → stages.Ends run.state (take held buffer) records 0 out next left len over
      → (last : ℕ) (final : List ℕ) → last ≡ len + length (closing_text next left) → final ≡ written len (closing_text next left) over
      → Finishes last final left
  unfolding after_line_end line_end_text
  finishes-line some long next small left len over (n, (r, t)) last final k w =
      let line : List ℕ = take held buffer in
      let p : Progress = with_line run.state records line in
      let a : List ℕ = line_text run.state line records in
      let b : List ℕ = closing_text next left in
      let (l, o) = writes-printed 0 out (omega arith) a t in
      let is : at_last ≡ p = last_line in
      let (text, left_so) = ended-too p (some-held held buffer some (omega arith)) in
      let whole : a ++ b ≡ finished_text at_last =
      ap₂ (λ (state : State) (records : List ℕ). a ++ closing_text state records) n r ∙ sym (ap finished_text is ∙ text) in
      let both : length (a ++ b) ≡ length a + length b = length-append a b in
      let same_size : length final ≡ length out = ap length w ∙ length-written len b over ∙ ap length o ∙ length-written 0 a out in
      let fits : 0 + length (a ++ b) ≤ length out = omega (arith, both, line-length run.state line records, closing-length next left small, size) in (
        k ∙ ap (λ (m : ℕ). m + length b) (l ∙ zero-add (length a)) ∙ sym both ∙ ap length whole,
        (
          w ∙ ap₂ (λ (m : ℕ) (before : List ℕ). written m b before) l o ∙ written_then 0 a b out fits ∙ ap (λ (text : List ℕ). written 0 text out) whole,
          (r ∙ sym (ap finished_records is ∙ left_so), omega (arith, k, l, both, fits, same_size)),
        ),
      )
