-- What is printed for an input, whatever it is: sections 15 and 16 of docs/RULES.md. A run is a list of calls, as section 14 has them: openings, then a call
-- for each step that is read. A unit is a node here.
-- Assumes nothing.
use Rattle.std.specs.Prelude.{cond, ◌&&◌, List, [], ◌∷◌, ◌++◌, ℕ, suc, leb, Option, Some, None}
use Rattle.octets.specs.Octets.{same}
use Rattle.config.specs.declared.Config.{Config}
use Rattle.protocol.specs.Trace.{Trace}
use Rattle.system.specs.Demand3.{Call, buffer, config_at}
use Rattle.text.specs.Text.{ascii, lines}
use Rattle.row.specs.declared.StepRow.{StepRow}
use Rattle.row.specs.Row.{table_names, step_names, is_table, config_in, row_in}
use Rattle.step.specs.Step.{answer_of, act_of, step_text, unread_text}
use Rattle.run_trace.specs.RunTrace.{system_of, openings, with_row, calls_of, delivered_count}
use Rattle.nodes.specs.Nodes.{most_nodes}
use Rattle.summary.specs.Summary.{summary_text}
use Rattle.stages.specs.Stages.{row_names}

module _ (config : Config) where
  -- R16.2, R16.3: what is printed for a row, after the calls before it. A step at a node finds the records that they left there.
  abbrev pub row_text_after : (before : Trace Call) (ordinal : ℕ) (row : Option StepRow) → List ℕ
  row_text_after before ordinal None = unread_text ordinal
  row_text_after before ordinal (Some row) =
      step_text ordinal row.node (act_of row.step) (answer_of (config_at (system_of config) row.node) row.step (buffer (system_of config) before row.node))

  -- The rows, of which the first has this ordinal. Unread rows are counted too.
  unfoldable pub rows_text : (before : Trace Call) (ordinal : ℕ) (rows : List (List ℕ)) → List ℕ
  rows_text before ordinal [] = []
  rows_text before ordinal (line ∷ others) =
      row_text_after before ordinal (row_in config.n line) ++ rows_text (with_row config before (row_in config.n line)) (suc ordinal) others

  -- R16.1: both names lines, with rows or without. The ordinal is counted from 1, and the last rows count the nodes that were answered delivered (R16.4).
  unfoldable pub run_text : (rows : List (List ℕ)) → List ℕ
  run_text rows =
      row_names
      ++ (rows_text (openings config config.n) 1 rows
      ++ summary_text config (delivered_count config (calls_of config rows)))

-- R15.7: all that is printed where there is no table
unfoldable pub no_table : List ℕ
no_table = ascii "no table\n"

-- R15.1, R15.5, R15.6: names, the table, names and steps; or else there is no table
unfoldable pub lines_text : (lines : List (List ℕ)) → List ℕ
lines_text [] = no_table
lines_text (names ∷ []) = no_table
lines_text (names ∷ table ∷ []) = no_table
lines_text (names ∷ table ∷ others ∷ rows) =
    cond (same names table_names && (is_table table && (leb (config_in table).n most_nodes && same others step_names))) (run_text (config_in table) rows) no_table

-- all that the program prints for its input
unfoldable pub printed : (input : List ℕ) → List ℕ
printed input = lines_text (lines input)
