-- `print_names` meets its contract. Assumes nothing.
use Rattle.std.proofs.Common.{◌+◌, ◌≤◌, length, sym, ◌∙◌, arith}
use borrow.Author.Tests.{leb-true}
use Rattle.text.specs.Text.{ascii}
use Rattle.text.proofs.WriteLaws.{end-with-room}
use Rattle.step.specs.Step.{row_space, roomy}
use Rattle.nodes.proofs.Printing.{unprinted, printed-fits}
use Rattle.stages.specs.Stages.{row_names}
use Rattle.stages.proofs.print_names.Goals as goal

pub returns-then-not-has_room : goal.returns-then-not-has_room
unfolding roomy
returns-then-not-has_room c =
    let (l, o) = unprinted _ _ (sym c.has_room.ensures ∙ c.if-not-has_room.true) _ in
    record { value = l; out_after = o }

pub returns : goal.returns
unfolding ascii
returns c =
    let s = c.args in
    let room : s.at + row_space ≤ length s.out.now = leb-true _ _ (sym c.has_room.ensures ∙ c.if-not-has_room.false) in
    let fits : s.at + length row_names ≤ length s.out.now = omega arith in
    let (l, o) = printed-fits s.at s.out.now row_names room in
    let k = c.put.ensures.value in let w = c.put.ensures.out_after in
    record {
      value = k ∙ end-with-room s.at row_names s.out.now fits ∙ sym l;
      out_after = w ∙ sym o;
    }
