-- `new` meets its contract: each return follows from the tests passed before it. Assumes nothing.
use mathlib.Core.Path.{sym, ◌∙◌}
use Rattle.calls.proofs.Days.{day-bad, day-size, day-done}
use Rattle.calls.proofs.day.Day.new.Goals as goal

pub returns-then-not-good : goal.returns-then-not-good
returns-then-not-good c = sym (day-bad _ _ (sym c.good.ensures ∙ c.if-not-good.true))

pub returns-then-records-records_size : goal.returns-then-records-records_size
returns-then-records-records_size c =
    sym (day-size _ _ (sym c.good.ensures ∙ c.if-not-good.false) (λ q. c.if-records-records_size.true (q ∙ sym c.records_size.ensures)))

pub returns : goal.returns
returns c = sym (day-done _ _ (sym c.good.ensures ∙ c.if-not-good.false) (c.if-records-records_size.false ∙ c.records_size.ensures))
