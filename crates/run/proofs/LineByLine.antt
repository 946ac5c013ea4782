-- Line by line the program prints what specs/Run.antt says of the lines: the first three decide whether there is a table, and after them each row finds the
-- records that the calls before it left.
-- Assumes nothing.
use mathlib.Core.Path.{◌≡◌, refl, sym, ap, ap₂, ◌∙◌, fun_ext}
use mathlib.Core.Bool.{Bool, true, false, cond, ◌&&◌}
use mathlib.Core.List.{List, [], ◌∷◌, ◌++◌, append_assoc}
use Prim.Native.Nat.{ℕ, suc, ◌+◌, ◌^◌, ◌≤◌, ◌<◌}
use native.Mathlib.Nat.{mod-eq_of_lt}
use native.Mathlib.Numerals.{add-one}
use native.Mathlib.Omega.{arith}
use lib.Dec.{leb}
use lib.ListN.{length}
use borrow.Author.Tests.{leb-true}
use Rattle.octets.specs.Octets.{same}
use Rattle.config.specs.declared.Config.{Config}
use Rattle.config.specs.Config.{good}
use Rattle.protocol.specs.Trace.{Trace}
use Rattle.system.specs.Demand3.{Call}
use Rattle.std.specs.Prelude.{Option, Some, None}
use Rattle.row.specs.Row.{table_names, step_names, config_in, is_table, table_in, row_in}
use Rattle.row.proofs.TableFields.{table-good, table-day}
use Rattle.row.proofs.RowNodes.{row-node-below}
use Rattle.run_trace.specs.RunTrace.{openings, with_row, with_rows, calls_of}
use Rattle.run_trace.specs.Calls.{shown_after}
use Rattle.run_trace.proofs.Shown.{delivered-are-shown}
use Rattle.nodes.specs.Nodes.{most_nodes, records_space, opened_up_to, opened_records, row_records}
use Rattle.nodes.proofs.Parts.{all-played}
use Rattle.summary.specs.Summary.{summary_text}
use Rattle.stages.specs.declared.State.{State}
use Rattle.stages.specs.declared.Stage.TheVariants.{TableRow, StepNames, Steps, NoTable}
use Rattle.stages.specs.Stages.{row_names, start_state, with_stage, after_table_row, after_step_names, after_step_row, after_line, line_records, line_text}
use Rattle.run.specs.Run.{row_text_after, rows_text, run_text, no_table, lines_text}
use Rattle.run.specs.Stream.{closing_text}
use Rattle.run.proofs.RecordsByCalls.{Plays, opened-plays, row-plays, row-prints, shown-same}
use Rattle.run.proofs.ByLines.{played_text}

-- ---- the step rows

-- a step row with this ordinal is to come
abbrev stepping : (w : Config) (ordinal : ℕ) → State
stepping w ordinal = record { stage = Steps; config = w; ordinal = ordinal }

module _ (w : Config) (few : w.n ≤ most_nodes) where
  module _ (ordinal : ℕ) (list : Trace Call) (records : List ℕ) (plays : Plays w list records) (line : List ℕ) where
    -- what is known after a row,
    row-known-after : ordinal + 1 < 2 ^ 64 → after_line (stepping w ordinal) line ≡ stepping w (suc ordinal)
    unfolding after_line after_step_row
    row-known-after fits = rw (mod-eq_of_lt fits, add-one ordinal)

    -- the records,
    row-left : line_records (stepping w ordinal) line records ≡ row_records w (row_in w.n line) records
    unfolding line_records
    row-left = rw (all-played w few)

    -- and what is printed for it
    row-printed : line_text (stepping w ordinal) line records ≡ row_text_after w list ordinal (row_in w.n line)
    unfolding line_text
    row-printed = rw (all-played w few) (row-prints w few list records plays ordinal (row_in w.n line) (row-node-below w.n line))

  -- the rows, and the last rows
  rows-print : (ordinal : ℕ) (list : Trace Call) (records : List ℕ) → Plays w list records → (rows : List (List ℕ)) → ordinal + length rows < 2 ^ 64
      → played_text (stepping w ordinal) records rows ≡ rows_text w list ordinal rows ++ summary_text w (shown_after w (with_rows w list rows))
  unfolding played_text rows_text with_rows closing_text
  rows-print ordinal list records plays [] fits = ap (summary_text w) (shown-same w few list records plays)
  rows-print ordinal list records plays (line ∷ others) fits =
      let row = row_in w.n line in
      ap₂ ◌++◌ (row-printed ordinal list records plays line)
      (ap₂ (λ (next : State) (left : List ℕ). played_text next left others) (row-known-after ordinal list records plays line (omega arith)) (row-left ordinal list records plays line)
      ∙ rows-print (suc ordinal) (with_row w list row) (row_records w row records) (row-plays w few list records plays row (row-node-below w.n line)) others (omega arith))
      ∙ sym (append_assoc (row_text_after w list ordinal row) (rows_text w (with_row w list row) (suc ordinal) others) (summary_text w (shown_after w (with_rows w (with_row w list row) others))))

-- ---- the first three lines

-- the day of a table row fits 32 bits
table-dated : (line : List ℕ) → is_table line ≡ true → (config_in line).day < 2 ^ 32
table-dated line e = table-day line e

-- without a table nothing is printed but that there is none
no-table-prints : (state : State) (records : List ℕ) (ls : List (List ℕ)) → played_text (with_stage state NoTable) records ls ≡ no_table
unfolding played_text closing_text with_stage after_line line_records line_text
no-table-prints state records [] = refl
no-table-prints state records (line ∷ others) = no-table-prints state records others

-- at the start of the table row, and of the second names line
abbrev at_table : (w : Config) (ordinal : ℕ) → State
at_table w ordinal = record { stage = TableRow; config = w; ordinal = ordinal }

abbrev at_names : (w : Config) (ordinal : ℕ) → State
at_names w ordinal = record { stage = StepNames; config = w; ordinal = ordinal }

module _ (ordinal : ℕ) (records : List ℕ) (size : length records ≡ records_space) where
  -- from the second names line on
  names-print : (w : Config) → w.n ≤ most_nodes → good w ≡ true → w.day < 2 ^ 32 → (names : List ℕ) (rows : List (List ℕ)) → 1 + length rows < 2 ^ 64
      → played_text (at_names w ordinal) records (names ∷ rows) ≡ cond (same names step_names) (run_text w rows) no_table
  unfolding played_text after_line line_records line_text after_step_names opened_records run_text calls_of
  names-print w few g dated names rows fits = go (same names step_names)
    where
      go : (b : Bool)
          → cond b row_names [] ++ played_text (cond b (after_step_names (at_names w ordinal)) (with_stage (at_names w ordinal) NoTable)) (cond b (opened_records w records) records) rows
          ≡ cond b (run_text w rows) no_table
      go true =
          ap (λ (text : List ℕ). row_names ++ text)
          (ap (λ (k : ℕ). played_text (stepping w 1) (opened_up_to w k records) rows) (all-played w few)
          ∙ rows-print w few 1 (openings w w.n) (opened_up_to w w.n records) (opened-plays w few g records size) rows fits
          ∙ ap (λ (counts : ℕ → ℕ → ℕ). rows_text w (openings w w.n) 1 rows ++ summary_text w counts)
          (fun_ext (λ sender. fun_ext (λ seq. (delivered-are-shown w rows g dated sender seq).1))))
      go false = no-table-prints (at_names w ordinal) records rows

  -- from the table row on
  table-print : (c : Config) (table names : List ℕ) (rows : List (List ℕ)) → 1 + length rows < 2 ^ 64
      → played_text (at_table c ordinal) records (table ∷ (names ∷ rows))
      ≡ cond (is_table table && (leb (config_in table).n most_nodes && same names step_names)) (run_text (config_in table) rows) no_table
  unfolding played_text after_line line_records line_text table_in
  table-print c table names rows fits = go (is_table table) refl (leb (config_in table).n most_nodes) refl
    where
      w : Config
      w = config_in table

      go : (a : Bool) → is_table table ≡ a → (b : Bool) → leb w.n most_nodes ≡ b
          → played_text (after_table_row (at_table c ordinal) (cond a (Some w) None)) records (names ∷ rows) ≡ cond (a && (b && same names step_names)) (run_text w rows) no_table
      go true e true f = rw f (names-print w (leb-true w.n most_nodes f) (table-good table e) (table-dated table e) names rows fits)
      go true e false f = rw f (no-table-prints (at_table c ordinal) records (names ∷ rows))
      go false e b f = no-table-prints (at_table c ordinal) records (names ∷ rows)

  -- a table row alone
  table-alone : (c : Config) (table : List ℕ) → played_text (at_table c ordinal) records (table ∷ []) ≡ no_table
  unfolding played_text closing_text after_line line_records line_text with_stage
  table-alone c table = go (table_in table)
    where
      go : (t : Option Config) → closing_text (after_table_row (at_table c ordinal) t) records ≡ no_table
      go None = refl
      go (Some w) = small (leb w.n most_nodes)
        where
          small : (b : Bool) → closing_text (cond b (at_names w ordinal) (with_stage (at_table c ordinal) NoTable)) records ≡ no_table
          small true = refl
          small false = refl

-- all of the lines
pub lines-print : (records : List ℕ) → length records ≡ records_space → (ls : List (List ℕ)) → length ls < 2 ^ 64 → played_text start_state records ls ≡ lines_text ls
unfolding played_text closing_text after_line line_records line_text lines_text start_state with_stage
lines-print records size [] fits = refl
lines-print records size (names ∷ []) fits = go (same names table_names)
  where
    go : (b : Bool) → closing_text (with_stage start_state (cond b TableRow NoTable)) records ≡ no_table
    go true = refl
    go false = refl
lines-print records size (names ∷ (table ∷ [])) fits = go (same names table_names)
  where
    go : (b : Bool) → played_text (with_stage start_state (cond b TableRow NoTable)) records (table ∷ []) ≡ no_table
    go true = table-alone 0 records size start_state.config table
    go false = no-table-prints start_state records (table ∷ [])
lines-print records size (names ∷ (table ∷ (others ∷ rows))) fits = go (same names table_names)
  where
    go : (b : Bool) → played_text (with_stage start_state (cond b TableRow NoTable)) records (table ∷ (others ∷ rows))
        ≡ cond (b && (is_table table && (leb (config_in table).n most_nodes && same others step_names))) (run_text (config_in table) rows) no_table
    go true = table-print 0 records size start_state.config table others rows (omega arith)
    go false = no-table-prints start_state records (table ∷ (others ∷ rows))
