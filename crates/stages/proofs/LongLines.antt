-- A line over 120 bytes is no names line, no table row and no step row. So the first 121 bytes of a line are enough: they do what the line does, and
-- the same is printed.
-- Assumes nothing.
use Rattle.std.proofs.Common.{◌≡◌, ℕ, ◌<◌, ◌≤◌, Bool, true, false, leb, List, length, take, refl, ap, arith, lit≤, length-take-le, take_all, leb-false, leb-true}
use Rattle.octets.specs.Octets.{same}
use Rattle.octets.proofs.Same.{same-says}
use Rattle.text.specs.Text.{ascii}
use Rattle.std.specs.Prelude.{None}
use Rattle.row.specs.Row.{table_names, step_names, is_table, table_in}
use Rattle.row.proofs.LineLengths.{table-short}
use Rattle.row.proofs.StepRows.{row-long}
use Rattle.nodes.specs.Nodes.{played_nodes}
use Rattle.stages.specs.declared.State.{State}
use Rattle.stages.specs.declared.Stage.{Stage}
use Rattle.stages.specs.declared.Stage.TheVariants.{TableNames, TableRow, StepNames, Steps, NoTable}
use Rattle.stages.specs.Stages.{line_space, after_line_at, after_line, line_records_at, line_records, line_text_at, line_text}

-- a long line is neither names line
longer-differs : (line names : List ℕ) → length names ≤ 120 → 120 < length line → same line names ≡ false
longer-differs line names short long = go (same line names) refl
  where
    go : (b : Bool) → same line names ≡ b → same line names ≡ false
    go true e = absurd (omega (arith, ap length (same-says line names e)))
    go false e = e

long-table_names : (line : List ℕ) → 120 < length line → same line table_names ≡ false
unfolding table_names ascii
long-table_names line long = longer-differs line table_names (lit≤ tt) long

long-step_names : (line : List ℕ) → 120 < length line → same line step_names ≡ false
unfolding step_names ascii
long-step_names line long = longer-differs line step_names (lit≤ tt) long

-- and no table row
long-table : (line : List ℕ) → 120 < length line → table_in line ≡ None
unfolding table_in
long-table line long = go (is_table line) refl
  where
    go : (b : Bool) → is_table line ≡ b → table_in line ≡ None
    go true e = absurd (omega (arith, table-short line e))
    go false e = rw e

-- two lines do the same, whatever the records, and the same is printed
pub record Alike (state : State) (line other : List ℕ) : Type 0 where
  pub known : after_line state line ≡ after_line state other
  pub left : (records : List ℕ) → line_records state line records ≡ line_records state other records
  pub printed : (records : List ℕ) → line_text state line records ≡ line_text state other records

-- as two long lines do
long-alike : (state : State) (line other : List ℕ) → 120 < length line → 120 < length other → Alike state line other
unfolding after_line line_records line_text
long-alike state line other long too =
    record {
      known = known_at state.stage;
      left = λ records. left_at state.stage records;
      printed = λ records. printed-at state.stage records;
    }
  where
    known_at : (stage : Stage) → after_line_at state stage line ≡ after_line_at state stage other
    known_at TableNames = rw (long-table_names line long, long-table_names other too)
    known_at TableRow = rw (long-table line long, long-table other too)
    known_at StepNames = rw (long-step_names line long, long-step_names other too)
    known_at Steps = refl
    known_at NoTable = refl

    left_at : (stage : Stage) (records : List ℕ) → line_records_at state stage line records ≡ line_records_at state stage other records
    left_at TableNames records = refl
    left_at TableRow records = refl
    left_at StepNames records = rw (long-step_names line long, long-step_names other too)
    left_at Steps records = rw (row-long (played_nodes state.config) line long, row-long (played_nodes state.config) other too)
    left_at NoTable records = refl

    printed-at : (stage : Stage) (records : List ℕ) → line_text_at state stage line records ≡ line_text_at state stage other records
    printed-at TableNames records = refl
    printed-at TableRow records = refl
    printed-at StepNames records = rw (long-step_names line long, long-step_names other too)
    printed-at Steps records = rw (row-long (played_nodes state.config) line long, row-long (played_nodes state.config) other too)
    printed-at NoTable records = refl

-- and as the first bytes of a line do
pub front-enough : (state : State) (line : List ℕ) → Alike state (take line_space line) line
front-enough state line = go (leb (length line) line_space) refl
  where
    go : (b : Bool) → leb (length line) line_space ≡ b → Alike state (take line_space line) line
    go true e = rw (take_all line_space line (leb-true (length line) line_space e)) (record { known = refl; left = λ records. refl; printed = λ records. refl })
    go false e =
        let long = leb-false (length line) line_space e in
        let front = length-take-le line_space line (omega arith) in
        long-alike state (take line_space line) line (omega arith) (omega arith)
