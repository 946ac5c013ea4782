-- The end of a line: what the program must leave, at each stage, and how much is printed. From the definitions of specs/Stages.antt.
-- Assumes nothing.
use Rattle.std.specs.Prelude.{Option, Some, None}
use Rattle.std.proofs.Common.{◌≡◌, ℕ, ◌≤◌, Bool, true, false, cond, List, [], length, sym, ap, ◌∙◌, lit≤}
use Rattle.octets.specs.Octets.{same}
use Rattle.text.specs.Text.{ascii}
use Rattle.row.specs.declared.StepRow.{StepRow}
use Rattle.row.specs.Row.{step_names, row_in}
use Rattle.step.specs.Step.{row_space, act_of}
use Rattle.step.proofs.Answers.{act-length, step-length, unread-length}
use Rattle.nodes.specs.Nodes.{played_nodes, row_text}
use Rattle.nodes.proofs.Printing.{Prints, prints-as}
use Rattle.stages.specs.declared.State.{State}
use Rattle.stages.specs.declared.Stage.{Stage}
use Rattle.stages.specs.declared.Stage.TheVariants.{TableNames, TableRow, StepNames, Steps, NoTable}
use Rattle.stages.specs.Stages.{after_line_at, after_line, line_records_at, line_records, line_text_at, line_text, row_names}

module _ (state : State) (line records : List ℕ) where
  -- what is known, left and printed
  abbrev pub Ends : (at : ℕ) (out : List ℕ) (next : State) (left : List ℕ) (len : ℕ) (over : List ℕ) → Type 0
  Ends at out next left len over = (next ≡ after_line state line) × ((left ≡ line_records state line records) × Prints at out (line_text state line records) len over)

  -- by the stage
  pub ends_at : (at : ℕ) (out : List ℕ) {stage : Stage} → state.stage ≡ stage → {next : State} {left : List ℕ} {len : ℕ} {over : List ℕ}
      → next ≡ after_line_at state stage line → left ≡ line_records_at state stage line records → Prints at out (line_text_at state stage line records) len over
      → Ends at out next left len over
  unfolding after_line line_records line_text
  ends_at at out told n r t = (
    n ∙ ap (λ (stage : Stage). after_line_at state stage line) (sym told),
    (
      r ∙ ap (λ (stage : Stage). line_records_at state stage line records) (sym told),
      prints-as at out (ap (λ (stage : Stage). line_text_at state stage line records) (sym told)) t,
    ),
  )

  -- ---- how much is printed

  row-length : (row : Option StepRow) → length (row_text state.config state.ordinal row records) ≤ row_space
  row-length None = unread-length state.ordinal
  row-length (Some row) = step-length state.ordinal row.node (act_of row.step) (act-length row.step) _

  names-length : (b : Bool) → length (cond b row_names []) ≤ row_space
  unfolding ascii
  names-length true = lit≤ tt
  names-length false = lit≤ tt

  length_at : (stage : Stage) → length (line_text_at state stage line records) ≤ row_space
  length_at TableNames = lit≤ tt
  length_at TableRow = lit≤ tt
  length_at StepNames = names-length (same line step_names)
  length_at Steps = row-length (row_in (played_nodes state.config) line)
  length_at NoTable = lit≤ tt

  pub line-length : length (line_text state line records) ≤ row_space
  unfolding line_text
  line-length = length_at state.stage
