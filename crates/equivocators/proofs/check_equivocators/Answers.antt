-- `check_equivocators` meets its contract: each return follows from the tests passed before it, as in `equivocators`. Assumes nothing.
use mathlib.Core.Path.{◌≡◌, sym, ap, ◌∙◌}
use mathlib.Core.Bool.{true}
use Rattle.std.proofs.lemmas.Result.{err_from_is_err_and}
use Rattle.refusal.specs.Outcome.{plain}
use Rattle.config.specs.declared.Config.{Config}
use Rattle.config.specs.Config.{with_own}
use Rattle.calls.specs.Day.{day_of, parts}
use Rattle.calls.specs.WellFormed.{all_well_formed}
use Rattle.calls.proofs.Days as days
use Rattle.equivocators.proofs.Refusals.{Made, first-made, first-formed, refused-early, refused-formed, refused-other-size, refused-other-formed, refused-same, names}
use Rattle.equivocators.proofs.check_equivocators.Goals as goal
use Rattle.equivocators.proofs.check_equivocators.Goals.{After-all_well_formed-2, Else-not-all_well_formed}

-- the first buffer has passed
module _ (c : Else-not-all_well_formed) where
  made-here : Made c.args.config c.args.other c.args.first.now (parts c.in_ok-here.here)
  made-here = first-made c.args.config c.args.other c.args.first.now (parts c.in_ok-here.here) c.in_ok-here.ensures

  formed-here : all_well_formed c.args.config c.args.first.now ≡ true
  formed-here = first-formed _ _ _ _ made-here ∙ (sym c.all_well_formed.ensures ∙ c.if-not-all_well_formed.false)

-- and the second has its size
module _ (c : After-all_well_formed-2) where
  abbrev first_passed : Else-not-all_well_formed
  first_passed = (goal.at.After-all_well_formed-2 c).Else-not-all_well_formed

  made-there : days.Made (with_own c.args.config c.args.other) c.args.second.now (parts c.in_ok-there.there)
  made-there =
      days.day-made (with_own c.args.config c.args.other) c.args.second.now (parts c.in_ok-there.there)
      (c.in_ok-there.ensures ∙ ap (λ (k : Config). day_of k c.args.second.now) c.with_own.ensures)

  formed-there : c.all_well_formed-2.result ≡ all_well_formed (with_own c.args.config c.args.other) c.args.second.now
  formed-there = c.all_well_formed-2.ensures ∙ sym (days.made-formed _ _ _ made-there)

pub returns-in_err-here : goal.returns-in_err-here
returns-in_err-here c =
    let a = c.args in
    let p = err_from_is_err_and c.from_residual.result c.from_residual.ensures.1 in
    rw (p.1, p.2) (sym (ap plain (refused-early a.config a.other a.first.now a.second.now _ c.in_err-here.ensures)))

pub returns-then-not-all_well_formed : goal.returns-then-not-all_well_formed
returns-then-not-all_well_formed c =
    let a = c.args in
    let m = first-made a.config a.other a.first.now _ c.in_ok-here.ensures in
    sym
    (ap plain
    (refused-formed a.config a.other a.first.now a.second.now m.here_good m.there_good m.records_whole
    (first-formed _ _ _ _ m ∙ (sym c.all_well_formed.ensures ∙ c.if-not-all_well_formed.true))))

pub returns-in_err-there : goal.returns-in_err-there
returns-in_err-there c =
    let a = c.args in
    let at = (goal.at.returns-in_err-there c).Else-not-all_well_formed in
    let m = made-here at in
    let p = err_from_is_err_and c.from_residual-in_err-there.result c.from_residual-in_err-there.ensures.1 in
    let told = days.day-length (with_own a.config a.other) a.second.now m.there_good _ (c.in_err-there.ensures ∙ ap (λ (k : Config). day_of k a.second.now) c.with_own.ensures) in
    rw (p.1, p.2, told.0)
    (sym (ap plain (refused-other-size a.config a.other a.first.now a.second.now m.here_good m.there_good m.records_whole (formed-here at) told.1)))

pub returns-then-not-all_well_formed-2 : goal.returns-then-not-all_well_formed-2
returns-then-not-all_well_formed-2 c =
    let a = c.args in
    let at = (goal.at.returns-then-not-all_well_formed-2 c).After-all_well_formed-2 in
    let m = made-here (first_passed at) in
    sym
    (ap plain
    (refused-other-formed a.config a.other a.first.now a.second.now m.here_good m.there_good m.records_whole (formed-here (first_passed at)) (made-there at).records_whole
    (sym (formed-there at) ∙ c.if-not-all_well_formed-2.true)))

pub returns-then-config-other : goal.returns-then-config-other
returns-then-config-other c =
    let a = c.args in
    let at = (goal.at.returns-then-config-other c).After-all_well_formed-2 in
    let m = made-here (first_passed at) in
    sym
    (ap plain
    (refused-same a.config a.other a.first.now a.second.now m.here_good m.there_good m.records_whole (formed-here (first_passed at)) (made-there at).records_whole
    (sym (formed-there at) ∙ c.if-not-all_well_formed-2.false) c.if-config-other.true))

pub returns-else-config-other : goal.returns-else-config-other
returns-else-config-other c =
    let a = c.args in
    let at = (goal.at.returns-else-config-other c).After-all_well_formed-2 in
    let m = made-here (first_passed at) in
    sym
    (ap plain
    (names a.config a.other a.first.now a.second.now m.here_good m.there_good m.records_whole (formed-here (first_passed at)) (made-there at).records_whole
    (sym (formed-there at) ∙ c.if-not-all_well_formed-2.false) c.if-config-other.false))
