-- `print_unread` meets its contract. Assumes nothing.
use mathlib.Core.Path.{sym, ◌∙◌}
use Rattle.text.specs.Text.{ascii}
use Rattle.step.specs.Step.{unread_text}
use Rattle.text.proofs.WrittenTexts.{puts, ◌then◌}
use Rattle.step.proofs.PrintedRows.{printed, printed-not}
use Rattle.step.proofs.Answers.{unread-length}
use Rattle.step.proofs.print_unread.Goals as goal

pub returns-then-not-has_room : goal.returns-then-not-has_room
returns-then-not-has_room c =
    let w = printed-not c.args.at _ c.args.out.now (sym c.has_room.ensures ∙ c.if-not-has_room.true) in
    record { value = w.0; out_after = w.1 }

pub returns : goal.returns
unfolding unread_text ascii
returns c =
    let ordinal = puts (c.decimal-a.ensures.value, c.decimal-a.ensures.out_after) in
    let rest = puts (c.put.ensures.value, c.put.ensures.out_after) in
    let w = printed c.args.at _ c.args.out.now _ _ (unread-length c.args.ordinal) (sym c.has_room.ensures ∙ c.if-not-has_room.false) (ordinal then rest) in
    record { value = w.0; out_after = w.1 }
