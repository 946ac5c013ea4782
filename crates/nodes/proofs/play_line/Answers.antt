-- `play_line` meets its contract. Assumes nothing.
use mathlib.Core.Path.{◌≡◌, refl, sym, ap, ◌∙◌}
use mathlib.Core.List.{List, ◌++◌}
use Prim.Native.Nat.{ℕ, ◌+◌, ◌-◌, ◌*◌, ◌≤◌}
use native.Mathlib.Omega.{arith}
use lib.ListN.{take, drop}
use Rattle.std.specs.Prelude.{Some}
use Rattle.config.specs.declared.Config.{Config}
use Rattle.config.specs.Config.{records_size, with_own}
use Rattle.row.specs.declared.StepRow.{StepRow}
use Rattle.row.specs.Row.{row_in}
use Rattle.row.proofs.RowNodes.{row-node}
use Rattle.step.specs.declared.Answer.{Answer}
use Rattle.step.specs.Step.{records_by, Answers, answered, act_by, step_text}
use Rattle.step.proofs.Answers.{answers-says, answers-act}
use Rattle.nodes.specs.Nodes.{node_space, records_space, played_nodes, row_text, row_records}
use Rattle.nodes.proofs.Parts.{part-fits, part_at, part-put}
use Rattle.nodes.proofs.Printing.{prints-nothing, prints-as}
use Rattle.nodes.proofs.play_line.Goals as goal
use Rattle.nodes.proofs.play_line.Goals.{After-records_size}

-- a step that was played over its node's part of the records: what is printed for it, and the records afterwards
module _ (config : Config) (records : List ℕ) (own : Config) (size : ℕ) (row : StepRow) (there : own ≡ with_own config row.node)
    (long : size ≡ records_size config) where
  abbrev passed : List ℕ
  passed = take (node_space * row.node + size - node_space * row.node) (drop (node_space * row.node) records)

  row-printed : (ordinal : ℕ) (answer : Answer) → Answers own row.step passed answer
      → step_text ordinal row.node (act_by answer) (answered answer) ≡ row_text config ordinal (Some row) records
  row-printed ordinal answer says =
      rw (answers-says own row.step passed answer says, answers-act own row.step passed answer says, there, part_at config row.node size long records)

  row_put : (new : List ℕ) → new ≡ records_by own row.step passed
      → take (node_space * row.node) records ++ (new ++ drop (node_space * row.node + size - node_space * row.node) (drop (node_space * row.node) records))
      ≡ row_records config (Some row) records
  row_put new e =
      part-put config row.node size long records new ∙ rw (e, there, part_at config row.node size long records)

-- the row that was read
read : (c : After-records_size) → row_in (played_nodes c.args.config) c.args.line.now ≡ Some c.in-Some.field-0
read c = ap (λ (n : ℕ). row_in n c.args.line.now) (sym c.played.ensures) ∙ sym c.read_row.ensures ∙ c.in-Some.is

-- its node's part lies within the buffer
bounded : (c : After-records_size) → node_space * c.from-start.result + c.records_size.result ≤ records_space
bounded c = rw c.from-start.ensures (part-fits _ _ _ _ refl c.records_size.ensures (row-node _ c.args.line.now _ (read c)))

pub overflow_add-end : goal.overflow_add-end
overflow_add-end c = omega (arith, bounded c)

pub slice_bounds-play-end : goal.slice_bounds-play-end
slice_bounds-play-end c = omega (arith, bounded (goal.at.slice_bounds-play-end c).After-records_size)

pub returns-in_default : goal.returns-in_default
returns-in_default c =
    let (l, o) = prints-nothing c.args.at c.args.out.now in
    let none = ap (λ (n : ℕ). row_in n c.args.line.now) (sym c.played.ensures) ∙ sym c.read_row.ensures ∙ c.in_default.is in
    record { value = rw none l; out_after = rw none o; records_after = rw none }

pub returns : goal.returns
returns c =
    let s = c.args in
    let row = c.in-Some.field-0 in
    let is = read (goal.at.returns c).After-records_size in
    let long = c.records_size.ensures in
    let there = c.with_own.ensures in
    let says = rw c.from-start.ensures at c.play-answer.ensures.answers in
    let left = rw c.from-start.ensures at c.play-answer.ensures.records_after in
    let (l, o) = prints-as s.at s.out.now (row-printed s.config s.records.now _ _ row there long s.ordinal _ says) (c.print.ensures.value, c.print.ensures.out_after) in
    record {
      value = rw is l;
      out_after = rw is o;
      records_after = rw (is, c.from-start.ensures) (row_put s.config s.records.now _ _ row there long _ left);
    }
