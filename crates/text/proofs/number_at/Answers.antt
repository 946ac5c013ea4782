-- `number_at` meets its contract: a number in the part from index `at` on is one at that index. Assumes nothing.
use mathlib.Core.Path.{◌≡◌, sym, ap, ◌∙◌}
use mathlib.Core.List.{List}
use mathlib.Core.Logic.{inl, inr}
use Prim.Native.Nat.{ℕ, ◌≤◌}
use native.Mathlib.Omega.{arith}
use lib.ListN.{length, drop, length-drop}
use Rattle.text.specs.Text.{number_at}
use Rattle.text.proofs.FieldPositions.{part_end, starts_first, number_read, number-shifted, number-beyond, none-shifted}
use Rattle.text.proofs.number_at.Goals as goal
use Rattle.text.proofs.number_at.Goals.{After-first_number}

-- the number in the part
part-read : (c : After-first_number) → c.first_number.result ≡ number_at c.args.limit (drop c.args.at c.args.text.now) 0
part-read c =
    let part = c.in_ok-get.ensures.lookup.0.2 ∙ part_end c.args.at c.args.text.now in
    c.first_number.ensures ∙ ap (λ (xs : List ℕ). number_at c.args.limit xs 0) part

pub returns-in_err-get : goal.returns-in_err-get
returns-in_err-get c =
    let beyond : length c.args.text.now ≤ c.args.at = elim c.in_err-get.ensures.lookup.0 [ inl h ↦ omega arith | inr h ↦ absurd (omega arith) ] in
    c.from_residual.ensures ∙ sym (number-beyond _ _ _ beyond)

pub returns-in_err-value : goal.returns-in_err-value
returns-in_err-value c =
    let read = part-read (goal.at.returns-in_err-value c).After-first_number in
    c.from_residual-in_err-value.ensures ∙ sym (none-shifted _ _ _ (sym read ∙ c.in_err-value.was))

pub overflow_add-result : goal.overflow_add-result
overflow_add-result c =
    let read = part-read (goal.at.overflow_add-result c).After-first_number in
    let next = (number_read _ (starts_first _) read c.in_ok-value.was).inside in
    omega (arith, length-drop c.args.at c.args.text.now, c.in_ok-get.ensures.lookup)

pub returns : goal.returns
returns c =
    let read = part-read (goal.at.returns c).After-first_number in
    sym (number-shifted _ _ _ _ _ (sym read ∙ c.in_ok-value.was))
