-- `collect` meets its contract: the records of the senders before `sender` are well-formed, and the first `count` values are their pool. Assumes nothing.
use mathlib.Core.Path.{◌≡◌, refl, sym, ap, ◌∙◌}
use Prim.Native.Nat.{◌<◌}
use native.Mathlib.Omega.{arith}
use lib.ListN.{length}
use borrow.Author.Rules.{rules}
use mir.Syntax.{w16}
use mir.Val.{of_z, to_z}
use Rattle.std.proofs.lemmas.Result.{err_from_is_err_and}
use Rattle.config.proofs.Laws.{good-says}
use Rattle.protocol.specs.Trace.{each}
use Rattle.calls.specs.WellFormed.{sender_well_formed, all_well_formed}
use Rattle.protocol.proofs.ComputedTests.{each_next, each-fails}
use Rattle.setpoint.specs.Setpoint.{value_in}
use Rattle.pool.specs.Pool.{pooled, pool}
use Rattle.pool.proofs.Pool.{pooled-more, pooled-same}
use Rattle.pool.proofs.collect.Goals as goal
use Rattle.pool.proofs.collect.Goals.{In-loop-sender, in-Some, in_default}

-- there is room for one value more
room : (c : In-loop-sender) → c.loop-sender.count < length c.loop-sender.values
room c = let most = (good-says c.args.day.config c.args.day.config_value).most in omega arith

pub loop-sender-init : goal.loop-sender-init
unfolding each pooled
loop-sender-init c = (omega arith, refl, refl)

pub bounds-values-count : goal.bounds-values-count
bounds-values-count c = room (goal.at.bounds-values-count c).In-loop-sender

pub returns-in_err-latest : goal.returns-in_err-latest
unfolding all_well_formed
returns-in_err-latest c =
    let told = err_from_is_err_and c.from_residual.result c.from_residual.ensures.1 in
    rw told.1 (
      each-fails c.args.day.config.n c.loop-sender.sender (sender_well_formed c.args.day.config c.args.day.records.now) c.loop-sender-test.true c.in_err-latest.ensures.0,
      told.2 ∙ c.in_err-latest.ensures.1,
    )

pub loop-sender-preserved : goal.loop-sender-preserved
loop-sender-preserved c = (
  elim c.match-latest.branch [ in-Some w ↦ omega arith | in_default w ↦ omega arith ],
  each_next c.loop-sender.sender (sender_well_formed c.args.day.config c.args.day.records.now) c.loop-sender.invariant.1 c.in_ok-latest.ensures.0,
  elim c.match-latest.branch [
    | in-Some w ↦
        let back : to_z w16 (of_z w16 w.in-Some.value) ≡ w.in-Some.value = search rules in
        rw (w.count-is, w.values-is, back)
        (pooled-more c.args.day.config c.args.day.records.now c.loop-sender.sender c.loop-sender.count c.loop-sender.values c.loop-sender.invariant.2 w.in-Some.value
        (room (goal.at.loop-sender-preserved c).In-loop-sender) (sym (ap value_in w.in-Some.is) ∙ c.in_ok-latest.ensures.1))
    | in_default w ↦
        rw (w.count-is, w.values-is)
        (pooled-same c.args.day.config c.args.day.records.now c.loop-sender.sender c.loop-sender.count c.loop-sender.values c.loop-sender.invariant.2
        (sym (ap value_in w.in_default.is) ∙ c.in_ok-latest.ensures.1))
  ],
)

pub returns : goal.returns
unfolding all_well_formed pool
returns c =
    let most = (good-says c.args.day.config c.args.day.config_value).most in
    let end : c.loop-sender.sender ≡ c.args.day.config.n = omega arith in
    (rw end at c.loop-sender.invariant.1, omega arith, rw end at c.loop-sender.invariant.2)
