-- `end_line` meets its contract: by stage. Assumes nothing.
use Rattle.std.proofs.Common.{refl, ap, ◌∙◌}
use Rattle.std.specs.Prelude.{Option}
use Rattle.config.specs.declared.Config.{Config}
use Rattle.nodes.proofs.Printing.{prints-nothing}
use Rattle.stages.specs.Stages.{after_table_row}
use Rattle.stages.proofs.LineEnds.{ends_at}
use Rattle.stages.proofs.end_line.Goals as goal

pub returns-in-TableNames : goal.returns-in-TableNames
returns-in-TableNames c =
    let s = c.args in
    let (n, (r, (l, o))) = ends_at s.state s.line.now s.records.now s.at s.out.now c.in-TableNames.is c.end_table_names.ensures refl (prints-nothing s.at s.out.now) in
    record { state_value = n; records_after = r; len_value = l; out_after = o }

pub returns-in-TableRow : goal.returns-in-TableRow
returns-in-TableRow c =
    let s = c.args in
    let (n, (r, (l, o))) = ends_at s.state s.line.now s.records.now s.at s.out.now c.in-TableRow.is (c.end_table_row.ensures ∙ ap (λ (table : Option Config). after_table_row s.state table) c.read_table.ensures) refl (prints-nothing s.at s.out.now) in
    record { state_value = n; records_after = r; len_value = l; out_after = o }

pub returns-in-StepNames : goal.returns-in-StepNames
returns-in-StepNames c =
    let s = c.args in
    let (n, (r, (l, o))) = ends_at s.state s.line.now s.records.now s.at s.out.now c.in-StepNames.is c.end_step_names.ensures.state_value c.end_step_names.ensures.records_after (c.end_step_names.ensures.len_value, c.end_step_names.ensures.out_after) in
    record { state_value = n; records_after = r; len_value = l; out_after = o }

pub returns-in-Steps : goal.returns-in-Steps
returns-in-Steps c =
    let s = c.args in
    let (n, (r, (l, o))) = ends_at s.state s.line.now s.records.now s.at s.out.now c.in-Steps.is c.end_step_row.ensures.state_value c.end_step_row.ensures.records_after (c.end_step_row.ensures.len_value, c.end_step_row.ensures.out_after) in
    record { state_value = n; records_after = r; len_value = l; out_after = o }

pub returns-in-NoTable : goal.returns-in-NoTable
returns-in-NoTable c =
    let s = c.args in
    let (n, (r, (l, o))) = ends_at s.state s.line.now s.records.now s.at s.out.now c.in-NoTable.is refl refl (prints-nothing s.at s.out.now) in
    record { state_value = n; records_after = r; len_value = l; out_after = o }
