-- The first line of a piece of the input: where it ends, how it is found there, and what comes of it. From the definitions of specs/Inner.antt and
-- specs/Bytes.antt, for any bytes.
-- Assumes nothing.
use Rattle.std.proofs.Common.{Some}
use mathlib.Core.Path.{◌≡◌, sym, ap, ap₂, ◌∙◌}
use mathlib.Core.List.{List, [], ◌∷◌, ◌++◌}
use Prim.Native.Nat.{ℕ, suc, ◌+◌, ◌≤◌, ◌<◌, min}
use native.Mathlib.Nat.{add-zero, min-eq_left}
use native.Mathlib.Numerals.{add-one}
use native.Mathlib.Omega.{arith}
use lib.Arith.{lt_of_le-ne}
use lib.ListN.{length, take, drop, length-take}
use lib.Seq.{take_all, take-suc, split_at, length-take-le}
use Rattle.text.specs.Text.{before, line_feed, written}
use Rattle.text.proofs.Fields.{before-le, before_here, before-append, before-none}
use Rattle.text.proofs.WriteLaws.{written-empty}
use Rattle.step.specs.Step.{row_space}
use Rattle.nodes.proofs.Printing.{Prints, printed-fits}
use Rattle.stages.specs.declared.State.{State}
use Rattle.stages.specs.Stages.{line_space, after_step_row, after_line, line_records, line_text, read_text, read_records}
use Rattle.stages.proofs.LineEnds as stages
use Rattle.stages.proofs.LongLines.{front-enough}
use Rattle.stages.proofs.ReadRows.{in_place}
use Rattle.lines.specs.declared.Run.{Run}
use Rattle.lines.specs.Bytes.{Progress, after_line_end, line_end_text, bytes_text, held_bytes, progress, through}
use Rattle.lines.specs.Inner.{FeedAt, UsesLine}
use Rattle.lines.proofs.Pieces.{with_line, bytes-held, line-ended, line-ended-text}

-- ---- a text written over a buffer from index `at` on, which ends at `len`

module _ (at : ℕ) (out : List ℕ) where
  abbrev pub Writes : (text : List ℕ) (len : ℕ) (over : List ℕ) → Type 0
  Writes text len over = (len ≡ at + length text) × (over ≡ written at text out)

  -- nothing is written,
  writes-none : Writes [] at out
  writes-none = (sym (add-zero at), sym (written-empty at out))

  -- or the same by another name,
  writes_as : {text other : List ℕ} → text ≡ other → {len : ℕ} {over : List ℕ} → Writes text len over → Writes other len over
  writes_as e (l, o) = (l ∙ ap (λ (text : List ℕ). at + length text) e, o ∙ ap (λ (text : List ℕ). written at text out) e)

  -- or what is printed where there is room for any row
  pub writes-printed : at + row_space ≤ length out → (text : List ℕ) {len : ℕ} {over : List ℕ} → Prints at out text len over → Writes text len over
  writes-printed room text (l, o) = let (end, fits) = printed-fits at out text room in (l ∙ end, o ∙ fits)

-- ---- where the first line ends

-- bytes without a line feed, and one after them, are the line
feed-found : (i : ℕ) (chunk : List ℕ) → FeedAt (Some i) chunk → before line_feed (take i chunk) ≡ length (take i chunk) → before line_feed chunk ≡ i
feed-found i chunk (h, feed) none =
    ap (before line_feed) (split_at chunk i 0 h ∙ ap (λ (b : ℕ). take i chunk ++ (b ∷ drop (suc i) chunk)) feed)
    ∙ before-append line_feed (take i chunk) (drop (suc i) chunk) none
    ∙ length-take-le i chunk (omega arith)

module _ (chunk : List ℕ) where
  -- what stands before the first line feed has none itself
  abbrev pub first_line : List ℕ
  first_line = take (before line_feed chunk) chunk

  first-feedless : before line_feed first_line ≡ length first_line
  first-feedless = before-none line_feed chunk ∙ sym (length-take-le (before line_feed chunk) chunk (before-le line_feed chunk))

  -- with no line feed all of it is used,
  through-all : before line_feed chunk ≡ length chunk → (through chunk ≡ length chunk) × (take (through chunk) chunk ≡ first_line)
  unfolding through
  through-all e =
      let all : min (suc (before line_feed chunk)) (length chunk) ≡ length chunk = omega arith in
      (all, ap (λ (k : ℕ). take k chunk) (all ∙ sym e))

  -- and else the first line with its line feed
  through-line : before line_feed chunk < length chunk → (through chunk ≡ suc (before line_feed chunk)) × (take (through chunk) chunk ≡ first_line ++ (line_feed ∷ []))
  unfolding through
  through-line h =
      let next : min (suc (before line_feed chunk)) (length chunk) ≡ suc (before line_feed chunk) = omega arith in (
        next,
        ap (λ (k : ℕ). take k chunk) next ∙ take-suc chunk (before line_feed chunk) 0 h ∙ ap (λ (b : ℕ). first_line ++ (b ∷ [])) (before_here line_feed chunk h),
      )

-- ---- what comes of it, as the program has it

-- no more is held than there is room for
pub held-few : (run : Run) → held_bytes run ≤ line_space
unfolding held_bytes
held-few run = omega arith

module _ (run : Run) (buffer records chunk : List ℕ) (at : ℕ) (out : List ℕ) where
  -- what has come of the line before, and what is known of the input then
  abbrev so-far : List ℕ
  so-far = take (held_bytes run) buffer

  abbrev at_first : Progress
  at_first = progress run buffer records

  -- all that is held of the line with what the piece has of it
  abbrev pub line_held : List ℕ
  line_held = take line_space (so-far ++ first_line chunk)

  -- what the program must leave after a line that has ended, with its bytes
  abbrev pub Ends : (line : List ℕ) (next : State) (left : List ℕ) (len : ℕ) (over : List ℕ) → Type 0
  Ends line next left len over =
      (next ≡ after_line run.state line) × ((left ≡ line_records run.state line records) × Writes at out (line_text run.state line records) len over)

  first-held : at_first ≡ with_line run.state records (take line_space so-far)
  unfolding progress
  first-held =
      ap (with_line run.state records) (sym (take_all line_space so-far (omega (arith, length-take (held_bytes run) buffer, held-few run))))

  -- with no line feed, the line is held
  uses-held : before line_feed chunk ≡ length chunk → (held : ℕ) (after : List ℕ) → held ≤ line_space → take held after ≡ line_held
      → UsesLine run buffer records chunk at out (record { state = run.state; held = held }) after records (before line_feed chunk) at out
  unfolding progress held_bytes
  uses-held e held after few same_line =
      let (all, whole) = through-all chunk e in
      let (p, none) = bytes-held run.state records so-far (first_line chunk) (first-feedless chunk) in
      let text : bytes_text at_first (take (through chunk) chunk) ≡ [] = rw (first-held, whole) none in
      let line : take (min held line_space) after ≡ line_held = rw (min-eq_left few) same_line in
      (e ∙ sym all, (rw (first-held, whole) (ap (with_line run.state records) line ∙ sym p), writes_as at out (sym text) (writes-none at out)))

  -- with one, the line ends
  uses-line : before line_feed chunk < length chunk → (next : State) (after left : List ℕ) (len : ℕ) (over : List ℕ)
      → Ends line_held next left len over → UsesLine run buffer records chunk at out (record { state = next; held = 0 }) after left (before line_feed chunk + 1) len over
  unfolding progress held_bytes after_line_end line_end_text
  uses-line h next after left len over (n, (r, t)) =
      let (next-index, whole) = through-line chunk h in
      let p = line-ended run.state records so-far (first_line chunk) (first-feedless chunk) in
      let text : bytes_text at_first (take (through chunk) chunk) ≡ line_text run.state line_held records =
      rw (first-held, whole) (line-ended-text run.state records so-far (first_line chunk) (first-feedless chunk)) in (
        add-one (before line_feed chunk) ∙ sym next-index,
        (
          ap₂ (λ (state : State) (records : List ℕ). with_line state records []) n r ∙ sym (rw (first-held, whole) p),
          writes_as at out (sym text) t,
        ),
      )

  -- and so it does where nothing was held and the line is played where it stands
  uses-row : run.held ≡ 0 → before line_feed chunk < length chunk → (next : State) (after left : List ℕ) (len : ℕ) (over : List ℕ)
      → Ends (first_line chunk) next left len over → UsesLine run buffer records chunk at out (record { state = next; held = 0 }) after left (before line_feed chunk + 1) len over
  unfolding held_bytes
  uses-row none h next after left len over (n, (r, t)) =
      let alike = front-enough run.state (first_line chunk) in
      let all : line_held ≡ take line_space (first_line chunk) = rw none in
      uses-line h next after left len over
      (rw all (n ∙ sym alike.known, (r ∙ sym (alike.left records), writes_as at out (sym (alike.printed records)) t)))

  -- ---- as the functions have it

  -- what is held once the line's bytes are added, with its end known by an equation
  pub line-held : (end : ℕ) → end ≡ before line_feed chunk → take line_space (take (held_bytes run) buffer ++ take end chunk) ≡ line_held
  line-held end e = rw e

  -- and what comes of a piece then
  module _ (end : ℕ) (e : end ≡ before line_feed chunk) (after : List ℕ) where
    pub uses-part : end ≡ length chunk → (held : ℕ) → held ≤ line_space → take held after ≡ line_held
        → UsesLine run buffer records chunk at out (record { state = run.state; held = held }) after records end at out
    uses-part all held few same_line =
        let (u, rest) = uses-held (sym e ∙ all) held after few same_line in (e ∙ u, rest)

    pub uses-ended : (end ≡ length chunk → ⊥) → at + row_space ≤ length out → (line : List ℕ) → line ≡ line_held → (next : State) (left : List ℕ) (len : ℕ) (over : List ℕ)
        → stages.Ends run.state line records at out next left len over → UsesLine run buffer records chunk at out (record { state = next; held = 0 }) after left (end + 1) len over
    uses-ended more room line same_line next left len over (n, (r, t)) =
        let within : before line_feed chunk < length chunk = lt_of_le-ne (before-le line_feed chunk) (λ (all : before line_feed chunk ≡ length chunk). more (e ∙ all)) in
        let ends : Ends line next left len over = (n, (r, writes-printed at out room (line_text run.state line records) t)) in
        let (u, rest) = uses-line within next after left len over (rw same_line at ends) in
        (ap (λ (k : ℕ). k + 1) e ∙ u, rest)

  -- a row that was played where it stands
  pub uses-usual : (end : ℕ) → FeedAt (Some end) chunk → run.held ≡ 0 → at + row_space ≤ length out → (len : ℕ) (left over : List ℕ)
      → Prints at out (read_text run.state (take end chunk) records) len over → left ≡ read_records run.state (take end chunk) records → at < len
      → (next : State) → next ≡ after_step_row run.state → (after : List ℕ) → UsesLine run buffer records chunk at out (record { state = next; held = 0 }) after left (end + 1) len over
  uses-usual end feed none room len left over t r more next n after =
      let row = in_place run.state (take end chunk) records at out t more in
      let index : before line_feed chunk ≡ end = feed-found end chunk feed row.feedless in
      let line : take end chunk ≡ first_line chunk = ap (λ (k : ℕ). take k chunk) (sym index) in
      let ends : Ends (take end chunk) next left len over = (n ∙ sym row.known, (r ∙ sym row.left, writes-printed at out room (line_text run.state (take end chunk) records) row.printed)) in
      let (u, rest) = uses-row none (rw index feed.0) next after left len over (rw line at ends) in
      (ap (λ (k : ℕ). k + 1) (sym index) ∙ u, rest)
