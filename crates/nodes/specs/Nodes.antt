-- The records of up to eight nodes in one buffer: each node's part of it, the day opened at every node, and a step row played at its node, with what
-- is printed for it.
-- Assumes nothing.
use Rattle.std.specs.Prelude.{cond, List, [], ◌++◌, ℕ, zero, suc, ◌+◌, ◌*◌, leb, take, drop, Option, Some, None}
use Rattle.octets.specs.Octets.{part}
use Rattle.config.specs.declared.Config.{Config}
use Rattle.config.specs.Config.{record_size, slots, records_size, with_own}
use Rattle.calls.specs.Open.{open_records}
use Rattle.row.specs.declared.StepRow.{StepRow}
use Rattle.step.specs.Step.{answer_of, records_by, act_of, step_text, unread_text}

-- R15.1: so many nodes a run may have
abbrev pub most_nodes : ℕ
most_nodes = 8

-- Each node has a part of the buffer, all of one length: what the records take in a system of eight nodes.
abbrev pub node_space : ℕ
node_space = record_size * slots * most_nodes

-- the whole buffer
abbrev pub records_space : ℕ
records_space = node_space * most_nodes

module _ (config : Config) where
  -- how many nodes are played: all of a system of at most eight, and else none
  unfoldable pub played_nodes : ℕ
  played_nodes = cond (leb config.n most_nodes) config.n 0

  -- a node's records: they start where its part does
  unfoldable pub records_at : (node : ℕ) (records : List ℕ) → List ℕ
  records_at node records = part (node_space * node) (records_size config) records

  -- the buffer with other records at a node
  unfoldable pub put_records : (node : ℕ) (new records : List ℕ) → List ℕ
  put_records node new records = take (node_space * node) records ++ (new ++ drop (node_space * node + records_size config) records)

  -- ---- opening

  -- R15.2: the day opened at the first nodes, so many of them
  unfoldable pub opened_up_to : (count : ℕ) (records : List ℕ) → List ℕ
  opened_up_to zero records = records
  opened_up_to (suc node) records =
      put_records node (open_records (with_own config node) (records_at node (opened_up_to node records))) (opened_up_to node records)

  -- and at all that are played
  unfoldable pub opened_records : (records : List ℕ) → List ℕ
  opened_records records = opened_up_to played_nodes records

  -- ---- a step row

  -- the records after it
  abbrev pub row_records : (row : Option StepRow) (records : List ℕ) → List ℕ
  row_records None records = records
  row_records (Some row) records =
      put_records row.node (records_by (with_own config row.node) row.step (records_at row.node records)) records

  -- What is printed for it. A row's ordinal is its place among the step rows, counted from 1: the printed column `line` (R16.2).
  abbrev pub row_text : (ordinal : ℕ) (row : Option StepRow) (records : List ℕ) → List ℕ
  row_text ordinal None records = unread_text ordinal
  row_text ordinal (Some row) records =
      step_text ordinal row.node (act_of row.step) (answer_of (with_own config row.node) row.step (records_at row.node records))

  -- the same for a row that is read, and nothing for one that is not
  abbrev pub read_text : (ordinal : ℕ) (row : Option StepRow) (records : List ℕ) → List ℕ
  read_text ordinal None records = []
  read_text ordinal (Some row) records = row_text ordinal (Some row) records
