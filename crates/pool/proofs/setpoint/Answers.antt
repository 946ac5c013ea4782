-- `setpoint` meets its contract: each return follows from the tests passed before it. Assumes nothing.
use mathlib.Core.Path.{◌≡◌, sym, ap, ap₂, ◌∙◌}
use mathlib.Core.Bool.{true}
use native.Mathlib.Omega.{arith}
use lib.ListN.{length, take}
use lib.Seq.{length-take-le}
use mir.Facts.{to_z-of_z}
use mir.Syntax.{w16}
use Rattle.std.proofs.lemmas.Result.{err_from_is_err_and}
use Rattle.refusal.specs.Outcome.{done}
use Rattle.refusal.proofs.Passed.{passed-on}
use Rattle.calls.specs.WellFormed.{all_well_formed}
use Rattle.calls.proofs.Days.{Made, day-made, made-formed}
use Rattle.middle.specs.Middle.{lower_middle}
use Rattle.pool.specs.Pool.{pool}
use Rattle.pool.proofs.Pool.{setpoint-dayless, setpoint-malformed, setpoint-few, setpoint-done}
use Rattle.pool.proofs.setpoint.Goals as goal
use Rattle.pool.proofs.setpoint.Goals.{In_ok-count, In_ok-day}

-- the day has what was given
made : (c : In_ok-day) → Made c.args.config c.args.records.now (c.in_ok-day.day.config, c.in_ok-day.day.records.now)
made c = day-made _ _ _ c.in_ok-day.ensures

-- ---- where the pool was collected
module _ (c : In_ok-count) where
  abbrev known : Made c.args.config c.args.records.now (c.in_ok-day.day.config, c.in_ok-day.day.records.now)
  known = made (goal.at.In_ok-count c).In_ok-day

  formed : all_well_formed c.args.config c.args.records.now ≡ true
  formed = made-formed _ _ _ known ∙ c.in_ok-count.ensures.0

  pooled_known : take c.in_ok-count.count c.collect.new.values ≡ pool c.args.config c.args.records.now
  pooled_known = c.in_ok-count.ensures.2 ∙ ap₂ pool known.config_is known.records_is

  -- the pool has as many values as were collected
  pool-length : length (pool c.args.config c.args.records.now) ≡ c.in_ok-count.count
  pool-length =
      let few = c.in_ok-count.ensures.1 in
      let kept = c.collect.auto in
      ap length (sym pooled_known) ∙ length-take-le c.in_ok-count.count c.collect.new.values (omega arith)

-- no day is made of a configuration that is not good, or of records of another length
pub returns-in_err-day : goal.returns-in_err-day
returns-in_err-day c = passed-on _ _ _ c.from_residual.ensures.1 ∙ setpoint-dayless _ _ _ c.in_err-day.ensures

pub returns-in_err-count : goal.returns-in_err-count
returns-in_err-count c =
    let known = made (goal.at.returns-in_err-count c).In_ok-day in
    let told = err_from_is_err_and c.from_residual-in_err-count.result c.from_residual-in_err-count.ensures.1 in
    rw (told.1, told.2, c.in_err-count.ensures.1)
    (sym (setpoint-malformed _ _ known.config_good known.records_whole (made-formed _ _ _ known ∙ c.in_err-count.ensures.0)))

pub returns-then-count-from : goal.returns-then-count-from
returns-then-count-from c =
    let at = (goal.at.returns-then-count-from c).In_ok-count in
    let many = pool-length at in
    sym (setpoint-few _ _ (known at).config_good (known at).records_whole (formed at) (omega arith))

pub returns : goal.returns
returns c =
    let at = (goal.at.returns c).In_ok-count in
    let many = pool-length at in
    ap done (to_z-of_z {w = w16} (record { sfits = c.lower_middle.type_inv }) ∙ (c.lower_middle.ensures.value ∙ ap lower_middle (pooled_known at)))
    ∙ sym (setpoint-done _ _ (known at).config_good (known at).records_whole (formed at) (omega arith))
