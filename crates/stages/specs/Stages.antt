-- A run file line by line (R15.1): what is known after a line that has ended, what it does to the records, and what is printed for it. It goes by stages: what
-- the line is to be.
-- Assumes nothing.
use Rattle.std.specs.Prelude.{ℕ, ◌+◌, ◌%◌, ◌^◌, cond, List, [], nat_le, Option, Some, None}
use Rattle.octets.specs.Octets.{same}
use Rattle.text.specs.Text.{ascii}
use Rattle.config.specs.declared.Config.{Config}
use Rattle.config.specs.Config.{config_of}
use Rattle.row.specs.Row.{table_names, step_names, table_in, row_in}
use Rattle.nodes.specs.Nodes as nodes
use Rattle.nodes.specs.Nodes.{most_nodes, played_nodes, opened_records, row_records, row_text}
use Rattle.stages.specs.declared.State.{State}
use Rattle.stages.specs.declared.Stage.{Stage}
use Rattle.stages.specs.declared.Stage.TheVariants.{TableNames, TableRow, StepNames, Steps, NoTable}

-- So many bytes of a line are enough to know what it does: one more than a row may have (R15.10).
abbrev pub line_space : ℕ
line_space = 121

-- R16.1: the names line that is printed above the step rows
abbrev pub row_names : List ℕ
row_names = ascii "line act unit answer reason count\n"

-- before the first line
unfoldable pub start_state : State
start_state = record { stage = TableNames; config = config_of 0 0 0 0 0 0; ordinal = 0 }

module _ (state : State) where
  -- ---- what is known after a line

  unfoldable pub with_stage : (stage : Stage) → State
  with_stage stage = record { stage = stage; config = state.config; ordinal = state.ordinal }

  -- R15.6: a good table of more than 8 nodes is none (R15.7)
  abbrev pub after_table_row : (table : Option Config) → State
  after_table_row None = with_stage NoTable
  after_table_row (Some config) =
      cond (nat_le config.n most_nodes) (record { stage = StepNames; config = config; ordinal = state.ordinal }) (with_stage NoTable)

  -- after the second names line, where it is right: the first step row is to come
  unfoldable pub after_step_names : State
  after_step_names = record { stage = Steps; config = state.config; ordinal = 1 }

  -- after a step row, read or not (R16.3); its ordinal is counted in 64 bits
  unfoldable pub after_step_row : State
  after_step_row = record { stage = Steps; config = state.config; ordinal = (state.ordinal + 1) % 2 ^ 64 }

  abbrev pub after_line_at : (stage : Stage) (line : List ℕ) → State
  after_line_at TableNames line = with_stage (cond (same line table_names) TableRow NoTable)
  after_line_at TableRow line = after_table_row (table_in line)
  after_line_at StepNames line = cond (same line step_names) after_step_names (with_stage NoTable)
  after_line_at Steps line = after_step_row
  after_line_at NoTable line = state

  unfoldable pub after_line : (line : List ℕ) → State
  after_line line = after_line_at state.stage line

  -- ---- what it does to the records: the second names line opens the day at every node (R15.2), and a step row is played

  abbrev pub line_records_at : (stage : Stage) (line records : List ℕ) → List ℕ
  line_records_at TableNames line records = records
  line_records_at TableRow line records = records
  line_records_at StepNames line records = cond (same line step_names) (opened_records state.config records) records
  line_records_at Steps line records = row_records state.config (row_in (played_nodes state.config) line) records
  line_records_at NoTable line records = records

  unfoldable pub line_records : (line records : List ℕ) → List ℕ
  line_records line records = line_records_at state.stage line records

  -- ---- what is printed for it

  abbrev pub line_text_at : (stage : Stage) (line records : List ℕ) → List ℕ
  line_text_at TableNames line records = []
  line_text_at TableRow line records = []
  line_text_at StepNames line records = cond (same line step_names) row_names []
  line_text_at Steps line records = row_text state.config state.ordinal (row_in (played_nodes state.config) line) records
  line_text_at NoTable line records = []

  unfoldable pub line_text : (line records : List ℕ) → List ℕ
  line_text line records = line_text_at state.stage line records

  -- ---- only for a step row that is read

  abbrev pub read_text_at : (stage : Stage) (line records : List ℕ) → List ℕ
  read_text_at TableNames line records = []
  read_text_at TableRow line records = []
  read_text_at StepNames line records = []
  read_text_at Steps line records = nodes.read_text state.config state.ordinal (row_in (played_nodes state.config) line) records
  read_text_at NoTable line records = []

  unfoldable pub read_text : (line records : List ℕ) → List ℕ
  read_text line records = read_text_at state.stage line records

  abbrev pub read_records_at : (stage : Stage) (line records : List ℕ) → List ℕ
  read_records_at TableNames line records = records
  read_records_at TableRow line records = records
  read_records_at StepNames line records = records
  read_records_at Steps line records = row_records state.config (row_in (played_nodes state.config) line) records
  read_records_at NoTable line records = records

  unfoldable pub read_records : (line records : List ℕ) → List ℕ
  read_records line records = read_records_at state.stage line records
