-- `end_step_row` meets its contract: with some text printed the row was read, and else it is printed that it was not. Assumes nothing.
use Rattle.std.proofs.Common.{◌∙◌}
use Rattle.row.specs.Row.{row_in}
use Rattle.nodes.specs.Nodes.{played_nodes}
use Rattle.stages.proofs.ReadRows.{read-printed, unread-printed}
use Rattle.stages.proofs.end_step_row.Goals as goal
use Rattle.stages.proofs.end_step_row.Goals.{then-at-read, else-at-read}

pub returns-clause-len_value : goal.returns-clause-len_value
returns-clause-len_value c =
    let s = c.args in
    let played = c.play_line-read.ensures in
    elim c.if-at-read.branch [
      | then-at-read w ↦ w.len-is ∙ (read-printed s.state.config s.state.ordinal s.records.now s.at s.out.now (row_in (played_nodes s.state.config) s.line.now) (played.value, played.out_after) w.if-at-read.true).0
      | else-at-read w ↦
          w.len-is ∙ (unread-printed s.state.config s.state.ordinal s.records.now s.at s.out.now (row_in (played_nodes s.state.config) s.line.now) (played.value, played.out_after) w.if-at-read.false (w.print_unread-len.ensures.value, w.print_unread-len.ensures.out_after)).0
    ]

pub returns-clause-out_after : goal.returns-clause-out_after
returns-clause-out_after c =
    let s = c.args in
    let played = c.play_line-read.ensures in
    elim c.if-at-read.branch [
      | then-at-read w ↦ w.out-is ∙ (read-printed s.state.config s.state.ordinal s.records.now s.at s.out.now (row_in (played_nodes s.state.config) s.line.now) (played.value, played.out_after) w.if-at-read.true).1
      | else-at-read w ↦
          w.out-is ∙ (unread-printed s.state.config s.state.ordinal s.records.now s.at s.out.now (row_in (played_nodes s.state.config) s.line.now) (played.value, played.out_after) w.if-at-read.false (w.print_unread-len.ensures.value, w.print_unread-len.ensures.out_after)).1
    ]
