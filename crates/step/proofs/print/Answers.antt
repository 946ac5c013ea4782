-- `print` meets its contract. Assumes nothing.
use mathlib.Core.Path.{ap, sym, ◌∙◌}
use mathlib.Core.List.{◌++◌}
use Rattle.step.specs.declared.Answer.{Answer}
use borrow.Author.Tests.{leb-true}
use Rattle.text.specs.Text.{ascii, decimal}
use Rattle.step.specs.Step.{answered, act_by, answer_text, step_text}
use Rattle.text.proofs.WrittenTexts.{Puts, puts, puts-as, puts-all, ◌then◌}
use Rattle.step.proofs.PrintedRows.{printed, printed-not}
use Rattle.step.proofs.Answers.{act-by-length, front-room, step-length}
use Rattle.step.proofs.print.Goals as goal
use Rattle.step.proofs.print.Goals.{After-decimal-c}

-- ---- what stands before the answer
ordinal-put : (c : After-decimal-c) → Puts c.args.at (decimal c.args.ordinal) c.args.out.now c.decimal-a.result c.decimal-a.new.out
ordinal-put c = puts (c.decimal-a.ensures.value, c.decimal-a.ensures.out_after)

act-put : (c : After-decimal-c) → Puts c.decimal-a.result (act_by c.args.answer) c.decimal-a.new.out c.put-b.result c.put-b.new.out
act-put c = puts-as c.act.ensures (puts (c.put-b.ensures.value, c.put-b.ensures.out_after))

node-put : (c : After-decimal-c) → Puts c.put-b.result (decimal c.args.node) c.put-b.new.out c.decimal-c.result c.decimal-c.new.out
node-put c = puts-as (ap decimal c.from.ensures) (puts (c.decimal-c.ensures.value, c.decimal-c.ensures.out_after))

pub returns-then-not-has_room : goal.returns-then-not-has_room
returns-then-not-has_room c =
    let w = printed-not c.args.at _ c.args.out.now (sym c.has_room.ensures ∙ c.if-not-has_room.true) in
    record { value = w.0; out_after = w.1 }

pub announced-requires : goal.announced-requires
announced-requires c =
    let p = (goal.at.announced-requires c).After-decimal-c in
    front-room p.args.ordinal p.args.node _ (act-by-length p.args.answer) (ordinal-put p) (act-put p) (node-put p) (leb-true _ _ (sym c.has_room.ensures ∙ c.if-not-has_room.false))

pub received-requires : goal.received-requires
received-requires c =
    let p = (goal.at.received-requires c).After-decimal-c in
    front-room p.args.ordinal p.args.node _ (act-by-length p.args.answer) (ordinal-put p) (act-put p) (node-put p) (leb-true _ _ (sym c.has_room.ensures ∙ c.if-not-has_room.false))

pub returns-in-Broadcast : goal.returns-in-Broadcast
unfolding step_text
returns-in-Broadcast c =
    let p = (goal.at.returns-in-Broadcast c).After-decimal-c in
    let a = c.args in
    let short = step-length a.ordinal a.node (act_by a.answer) (act-by-length a.answer) (answered a.answer) in
    let rest = puts-as (ap (λ (r : Answer). ascii " " ++ answer_text (answered r)) (sym c.in-Broadcast.is)) (puts-all (c.announced.ensures.value, c.announced.ensures.out_after)) in
    let w = printed a.at _ a.out.now _ _ short (sym c.has_room.ensures ∙ c.if-not-has_room.false) (ordinal-put p then act-put p then node-put p then rest) in
    record { value = w.0; out_after = w.1 }

pub returns-in-Receive : goal.returns-in-Receive
unfolding step_text
returns-in-Receive c =
    let p = (goal.at.returns-in-Receive c).After-decimal-c in
    let a = c.args in
    let short = step-length a.ordinal a.node (act_by a.answer) (act-by-length a.answer) (answered a.answer) in
    let rest = puts-as (ap (λ (r : Answer). ascii " " ++ answer_text (answered r)) (sym c.in-Receive.is)) (puts-all (c.received.ensures.value, c.received.ensures.out_after)) in
    let w = printed a.at _ a.out.now _ _ short (sym c.has_room.ensures ∙ c.if-not-has_room.false) (ordinal-put p then act-put p then node-put p then rest) in
    record { value = w.0; out_after = w.1 }
