-- `read_row` meets its contract: the first two bytes say which act it is. Assumes nothing.
use mathlib.Core.Path.{◌≡◌, sym, ◌∙◌}
use mathlib.Core.List.{[], ◌∷◌}
use native.Mathlib.Omega.{arith}
use lib.ListN.{get_or, drop}
use Rattle.text.specs.Text.{ascii, after_fields}
use Rattle.row.specs.Row.{act}
use Rattle.row.proofs.StepRows.{row-no-letter, row-no-node, row-broadcast, row-receive, short-no-node, letter-read}
use Rattle.row.proofs.read_row.Goals as goal
use Rattle.row.proofs.read_row.Goals.{In-66, In-65}

-- ---- the act of a line that starts with its letter and a space
act-b : (c : In-66) → (act c.args.line.now ≡ 66 ∷ []) × (after_fields 1 c.args.line.now ≡ drop 2 c.args.line.now)
act-b c =
    let first : get_or c.args.line.now 0 0 ≡ 66 = omega arith in
    let second : get_or c.args.line.now 1 0 ≡ 32 = omega arith in
    letter-read 66 c.args.line.now c.in-66.len_at_least (λ q. omega arith) first second

act-a : (c : In-65) → (act c.args.line.now ≡ 65 ∷ []) × (after_fields 1 c.args.line.now ≡ drop 2 c.args.line.now)
act-a c =
    let first : get_or c.args.line.now 0 0 ≡ 65 = omega arith in
    let second : get_or c.args.line.now 1 0 ≡ 32 = omega arith in
    letter-read 65 c.args.line.now c.in-65.len_at_least (λ q. omega arith) first second

pub invariant_of-receive : goal.invariant_of-receive
invariant_of-receive c = record { after_act = (act-b c).1 }

pub invariant_of-broadcast : goal.invariant_of-broadcast
invariant_of-broadcast c = record { after_act = (act-a c).1 }

pub returns-in-66 : goal.returns-in-66
unfolding ascii
returns-in-66 c = c.receive.ensures ∙ sym (row-receive _ _ (act-b (goal.at.returns-in-66 c).In-66).0)

pub returns-in-65 : goal.returns-in-65
unfolding ascii
returns-in-65 c = c.broadcast.ensures ∙ sym (row-broadcast _ _ (act-a (goal.at.returns-in-65 c).In-65).0)

pub returns-in_default : goal.returns-in_default
returns-in_default c = row-no-node _ _ (short-no-node _ _ c.in_default.len_below)

pub returns-in_default-2 : goal.returns-in_default-2
returns-in_default-2 c = row-no-letter _ _ c.in_default.len_at_least (λ first second. omega arith) (λ first second. omega arith)

pub returns-in_default-3 : goal.returns-in_default-3
returns-in_default-3 c = row-no-letter _ _ c.in_default.len_at_least (λ first second. omega arith) (λ first second. omega arith)

pub returns-in_default-4 : goal.returns-in_default-4
returns-in_default-4 c = row-no-letter _ _ c.in_default.len_at_least (λ first second. omega arith) (λ first second. omega arith)
