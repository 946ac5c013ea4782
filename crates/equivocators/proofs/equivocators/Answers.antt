-- `equivocators` meets its contract: each return follows from the tests passed before it. Assumes nothing.
use mathlib.Core.Path.{◌≡◌, refl, sym, ap, ◌∙◌}
use mathlib.Core.Bool.{true, and-eq-true_iff}
use mathlib.Core.List.{List}
use Prim.Native.Nat.{ℕ}
use native.Mathlib.Nat.{le_of_eq}
use native.Mathlib.Omega.{arith}
use Rattle.std.proofs.lemmas.Result.{err_from_is_err_and}
use Rattle.signers.proofs.Members.{word_same}
use Rattle.refusal.specs.Outcome.{done}
use Rattle.config.specs.declared.Config.{Config}
use Rattle.config.specs.Config.{with_own}
use Rattle.calls.specs.Day.{day_of, parts}
use Rattle.calls.specs.WellFormed.{all_well_formed}
use Rattle.calls.proofs.Days as days
use Rattle.equivocators.specs.Equivocators.{equivocates}
use Rattle.equivocators.specs.Inner.{all_formed}
use Rattle.equivocators.proofs.Refusals.{Made, first-made, first-formed, both-formed, told-of, same-system, refused-early, refused-formed, refused-other-size, refused-either, refused-same, names}
use Rattle.equivocators.proofs.equivocators.Goals as goal
use Rattle.equivocators.proofs.equivocators.Goals.{In-Ok}

pub returns-in_err-here : goal.returns-in_err-here
returns-in_err-here c =
    let a = c.args in
    let p = err_from_is_err_and c.from_residual.result c.from_residual.ensures.1 in
    rw (p.1, p.2) (sym (refused-early a.config a.other a.first.now a.second.now _ c.in_err-here.ensures))

pub returns-then-not-all_well_formed : goal.returns-then-not-all_well_formed
returns-then-not-all_well_formed c =
    let a = c.args in
    let m = first-made a.config a.other a.first.now _ c.in_ok-here.ensures in
    sym
    (refused-formed a.config a.other a.first.now a.second.now m.here_good m.there_good m.records_whole
    (first-formed _ _ _ _ m ∙ (sym c.all_well_formed.ensures ∙ c.if-not-all_well_formed.true)))

pub returns-in_default : goal.returns-in_default
returns-in_default c =
    let a = c.args in
    let m = first-made a.config a.other a.first.now _ c.in_ok-here.ensures in
    let told = days.day-length (with_own a.config a.other) a.second.now m.there_good _ (c.in_default.ensures ∙ ap (λ (k : Config). day_of k a.second.now) c.with_own.ensures) in
    sym
    (refused-other-size a.config a.other a.first.now a.second.now m.here_good m.there_good m.records_whole
    (first-formed _ _ _ _ m ∙ (sym c.all_well_formed.ensures ∙ c.if-not-all_well_formed.false)) told.1)

-- ---- both days

module _ (c : In-Ok) where
  abbrev here : Config × List ℕ
  here = parts c.in_ok-here.here

  abbrev there : Config × List ℕ
  there = parts c.in-Ok.there

  made-here : Made c.args.config c.args.other c.args.first.now here
  made-here = first-made c.args.config c.args.other c.args.first.now here c.in_ok-here.ensures

  made-there : days.Made (with_own c.args.config c.args.other) c.args.second.now there
  made-there =
      days.day-made (with_own c.args.config c.args.other) c.args.second.now there
      (c.in-Ok.ensures ∙ ap (λ (k : Config). day_of k c.args.second.now) c.with_own.ensures)

  told : {A : Type 0} (f : Config → ℕ → List ℕ → List ℕ → A)
      → f here.0 there.0.own here.1 there.1 ≡ f c.args.config c.args.other c.args.first.now c.args.second.now
  told f = told-of c.args.config c.args.other c.args.first.now c.args.second.now here there made-here made-there f

  -- where all records are well-formed, so are those of each buffer
  formed : all_formed here.0 there.0.own here.1 there.1 ≡ true
      → (all_well_formed c.args.config c.args.first.now ≡ true) × (all_well_formed (with_own c.args.config c.args.other) c.args.second.now ≡ true)
  formed e =
      (and-eq-true_iff (all_well_formed c.args.config c.args.first.now) (all_well_formed (with_own c.args.config c.args.other) c.args.second.now)).0
      (sym (both-formed c.args.config c.args.other c.args.first.now c.args.second.now) ∙ sym (told all_formed) ∙ e)

pub invariant_of-compare : goal.invariant_of-compare
invariant_of-compare c =
    let a = c.args in
    record { same_system = same-system a.config a.other a.first.now a.second.now (here c) (there c) (made-here c) (made-there c) }

pub returns-in_err-named : goal.returns-in_err-named
returns-in_err-named c =
    let a = c.args in
    let at = (goal.at.returns-in_err-named c).In-Ok in
    let m = made-here at in
    let p = err_from_is_err_and c.from_residual-in_err-named.result c.from_residual-in_err-named.ensures.1 in
    rw (p.1, p.2, c.in_err-named.ensures.1)
    (sym
    (refused-either a.config a.other a.first.now a.second.now m.here_good m.there_good m.records_whole (made-there at).records_whole
    (sym (told at all_formed) ∙ c.in_err-named.ensures.0)))

pub returns-then-config-other : goal.returns-then-config-other
returns-then-config-other c =
    let a = c.args in
    let at = (goal.at.returns-then-config-other c).In-Ok in
    let m = made-here at in
    let f = formed at c.in_ok-named.ensures.0 in
    sym
    (refused-same a.config a.other a.first.now a.second.now m.here_good m.there_good m.records_whole f.0 (made-there at).records_whole f.1
    c.if-config-other.true)

pub returns : goal.returns
returns c =
    let a = c.args in
    let at = (goal.at.returns c).In-Ok in
    let m = made-here at in
    let f = formed at c.in_ok-named.ensures.0 in
    ap done
    (word_same c.in_ok-named.named (equivocates a.config a.other a.first.now a.second.now) 64 (le_of_eq refl) (omega arith)
    (λ u l. c.in_ok-named.ensures.1 u ∙ told at (λ config other first second. equivocates config other first second u)))
    ∙ sym
    (names a.config a.other a.first.now a.second.now m.here_good m.there_good m.records_whole f.0 (made-there at).records_whole f.1
    c.if-config-other.false)
