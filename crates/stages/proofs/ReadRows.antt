-- A step row that is read, and one that is not: where something is printed for it, it was read and that is its text; and else nothing was done, where
-- there is room for any row. From the definitions of specs/Stages.antt, and that a row which is read has no line feed.
-- Assumes nothing.
use Rattle.std.specs.Prelude.{Option, Some, None}
use Rattle.std.proofs.Common.{◌≡◌, ℕ, ◌+◌, ◌<◌, ◌≤◌, Bool, true, false, List, ◌++◌, length, refl, ◌∙◌, arith, length-append}
use Rattle.config.specs.declared.Config.{Config}
use Rattle.text.specs.Text.{before, decimal, line_feed}
use Rattle.text.proofs.DecimalDigits.{decimal-some}
use Rattle.row.specs.declared.StepRow.{StepRow}
use Rattle.row.specs.Row.{row_in}
use Rattle.row.proofs.RowNodes.{row-no-feed}
use Rattle.step.specs.Step.{step_text, unread_text, row_space, roomy}
use Rattle.nodes.specs.Nodes as nodes
use Rattle.nodes.specs.Nodes.{played_nodes, row_records, row_text}
use Rattle.nodes.proofs.Printing.{Prints, printed-fits, nothing_ends, unprinted, unprinted-ends, printed-ends}
use Rattle.stages.specs.declared.State.{State}
use Rattle.stages.specs.declared.Stage.{Stage}
use Rattle.stages.specs.declared.Stage.TheVariants.{TableNames, TableRow, StepNames, Steps, NoTable}
use Rattle.stages.specs.Stages.{after_step_row, after_line, line_records, line_text, read_text_at, read_text, read_records_at, read_records}

-- a text that begins with a number is not empty
some : (ordinal : ℕ) (rest : List ℕ) → 0 < length (decimal ordinal ++ rest)
some ordinal rest = omega (arith, decimal-some ordinal, length-append (decimal ordinal) rest)

-- nor is what is printed for a row that is read
row-some : (config : Config) (ordinal : ℕ) (records : List ℕ) (row : StepRow) → 0 < length (row_text config ordinal (Some row) records)
unfolding step_text
row-some config ordinal records row = some ordinal _

-- ---- a row that was played

module _ (config : Config) (ordinal : ℕ) (records : List ℕ) (at : ℕ) (out : List ℕ) where
  module _ {read : ℕ} {over : List ℕ} where
    -- with some text, the row was read,
    pub read-printed : (row : Option StepRow) → Prints at out (nodes.read_text config ordinal row records) read over → at < read
        → Prints at out (row_text config ordinal row records) read over
    read-printed None t more = absurd (omega (arith, (nothing_ends at out t).0))
    read-printed (Some row) t more = t

    -- and with none, it is printed that it was not
    pub unread-printed : (row : Option StepRow) → Prints at out (nodes.read_text config ordinal row records) read over → read ≤ at
        → {len : ℕ} {final : List ℕ} → Prints at over (unread_text ordinal) len final → Prints at out (row_text config ordinal row records) len final
    unread-printed None t none p = rw (nothing_ends at out t).1 at p
    unread-printed (Some row) t none p = go (roomy at out) refl p
      where
        go : (b : Bool) → roomy at out ≡ b → {len : ℕ} {final : List ℕ} → Prints at over (unread_text ordinal) len final
            → Prints at out (row_text config ordinal (Some row) records) len final
        go true e p = absurd (omega (arith, printed-ends at out e _ t, row-some config ordinal records row))
        go false e p =
            let (m, o) = unprinted-ends at out e _ t in
            let (k, f) = unprinted-ends at out e (unread_text ordinal) (rw o at p) in
            let (l, w) = unprinted at out e (row_text config ordinal (Some row) records) in
            (k ∙ l, f ∙ w)

  -- with room for any row, and none printed, nothing was done
  pub unread-nothing : (row : Option StepRow) {read : ℕ} {over : List ℕ} → Prints at out (nodes.read_text config ordinal row records) read over
      → at + row_space ≤ length out → read ≤ at → (row_records config row records ≡ records) × (over ≡ out)
  unread-nothing None t room none = (refl, (nothing_ends at out t).1)
  unread-nothing (Some row) t room none =
      absurd (omega (arith, t.0 ∙ (printed-fits at out (row_text config ordinal (Some row) records) room).0, row-some config ordinal records row))

-- ---- a line of which the row was played where it stands

module _ (state : State) (line records : List ℕ) (at : ℕ) (out : List ℕ) {read : ℕ} {over : List ℕ}
    (t : Prints at out (read_text state line records) read over) where
  -- with some text it was a step row that is read, and that is all that the line does
  pub record InPlace : Type 0 where
    pub feedless : before line_feed line ≡ length line
    pub known : after_line state line ≡ after_step_row state
    pub left : line_records state line records ≡ read_records state line records
    pub printed : Prints at out (line_text state line records) read over

  pub in_place : at < read → InPlace
  unfolding read_text after_line line_records read_records line_text
  in_place more = go state.stage refl t
    where
      row : Option StepRow
      row = row_in (played_nodes state.config) line

      feedless-row : (r : Option StepRow) → row ≡ r → Prints at out (nodes.read_text state.config state.ordinal r records) read over
          → before line_feed line ≡ length line
      feedless-row None e t = absurd (omega (arith, (nothing_ends at out t).0))
      feedless-row (Some read) e t = row-no-feed (played_nodes state.config) line read e

      go : (stage : Stage) → state.stage ≡ stage → Prints at out (read_text_at state stage line records) read over → InPlace
      go TableNames e t = absurd (omega (arith, (nothing_ends at out t).0))
      go TableRow e t = absurd (omega (arith, (nothing_ends at out t).0))
      go StepNames e t = absurd (omega (arith, (nothing_ends at out t).0))
      go Steps e t =
          record {
            feedless = feedless-row row refl t;
            known = rw e;
            left = rw e;
            printed = rw e (read-printed state.config state.ordinal records at out row t more);
          }
      go NoTable e t = absurd (omega (arith, (nothing_ends at out t).0))

  -- and with none, where there is room for any row, nothing was done
  pub not-in-place : at + row_space ≤ length out → read ≤ at → (read_records state line records ≡ records) × (over ≡ out)
  unfolding read_text read_records
  not-in-place room none = go state.stage t
    where
      go : (stage : Stage) → Prints at out (read_text_at state stage line records) read over
          → (read_records_at state stage line records ≡ records) × (over ≡ out)
      go TableNames t = (refl, (nothing_ends at out t).1)
      go TableRow t = (refl, (nothing_ends at out t).1)
      go StepNames t = (refl, (nothing_ends at out t).1)
      go Steps t = unread-nothing state.config state.ordinal records at out (row_in (played_nodes state.config) line) t room none
      go NoTable t = (refl, (nothing_ends at out t).1)
