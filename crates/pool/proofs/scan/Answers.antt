-- `scan` meets its contract: the records before `seq` are well-formed, and the latest setpoint in them is the one found. Assumes nothing.
use mathlib.Core.Path.{◌≡◌, refl, sym, ap, ap₂, ◌∙◌}
use mathlib.Core.Bool.{Bool, true, false, cond}
use mathlib.Core.List.{List, []}
use Prim.Native.Nat.{ℕ}
use native.Mathlib.Omega.{arith}
use Rattle.std.specs.Prelude.{None}
use Rattle.config.specs.declared.Config.{Config}
use Rattle.config.specs.Config.{slots, slot_of_day}
use Rattle.protocol.specs.Trace.{each}
use Rattle.protocol.specs.Update.{is_delivered}
use Rattle.payload.specs.Payload as payload
use Rattle.record.specs.Record.{bytes, decoded, payload_field}
use Rattle.record.proofs.Words.{payload-words}
use Rattle.std.proofs.lemmas.Result.{err_from_is_err_and}
use Rattle.refusal.specs.declared.Refusal.TheVariants.{MalformedRecord}
use Rattle.refusal.proofs.Unique.{number-one}
use Rattle.calls.specs.Records.{record_at}
use Rattle.calls.proofs.Days.{slot-given, slot-refused}
use Rattle.calls.specs.WellFormed.{slot_well_formed, sender_well_formed}
use Rattle.protocol.proofs.ComputedTests.{each_next, each-fails}
use Rattle.setpoint.specs.Setpoint.{setpoint_in, value_in}
use Rattle.pool.specs.Pool.{delivered_setpoint, delivered_setpoints, latest}
use Rattle.pool.proofs.Pool.{slot-setpoint, latest-next}
use Rattle.pool.proofs.scan.Goals as goal
use Rattle.pool.proofs.scan.Goals.{After-is_delivered, then-is_delivered, else-is_delivered}

-- what is delivered in the slot: what the record says, if it is delivered
module _ (c : After-is_delivered) where
  abbrev config : Config
  config = c.args.day.config

  abbrev records : List ℕ
  records = c.args.day.records.now

  abbrev given : (slot_well_formed config records c.args.sender c.loop-seq.seq ≡ true)
      × (bytes c.in_ok-record.«record» ≡ record_at config (slot_of_day config c.args.sender c.loop-seq.seq) records)
  given = slot-given config records c.args.sender c.loop-seq.seq _ c.in_ok-record.ensures

  said : (delivered : Bool) → c.is_delivered.result ≡ delivered
      → delivered_setpoint config records c.args.sender c.loop-seq.seq ≡ cond delivered (setpoint_in (payload.bytes c.in_ok-record.«record».payload)) []
  said delivered is =
      slot-setpoint config records c.args.day.config_value c.args.day.records_len c.args.sender c.requires c.loop-seq.seq c.loop-seq-test.true given.0
      ∙ (ap (λ (xs : List ℕ). cond (is_delivered (decoded xs)) (setpoint_in (payload_field xs)) []) (sym given.1)
      ∙ ap₂ (λ (m : Bool) (ys : List ℕ). cond m (setpoint_in ys) []) (sym c.is_delivered.ensures ∙ is) (payload-words c.in_ok-record.«record»))

pub loop-seq-init : goal.loop-seq-init
unfolding each delivered_setpoints
loop-seq-init c = (refl, refl)

pub returns-in_err-record : goal.returns-in_err-record
unfolding sender_well_formed
returns-in_err-record c =
    let told = err_from_is_err_and c.from_residual.result c.from_residual.ensures.1 in
    let (malformed, number) = slot-refused c.args.day.config c.args.day.records.now c.args.sender c.loop-seq.seq c.requires c.loop-seq-test.true _ c.in_err-record.ensures in
    rw told.1 (
      each-fails slots c.loop-seq.seq (slot_well_formed c.args.day.config c.args.day.records.now c.args.sender) c.loop-seq-test.true malformed,
      told.2 ∙ number-one _ MalformedRecord number,
    )

pub loop-seq-preserved : goal.loop-seq-preserved
loop-seq-preserved c =
    let told = (goal.at.loop-seq-preserved c).After-is_delivered in
    let cfg = c.args.day.config in
    let xs = c.args.day.records.now in
    let from = c.args.sender in
    let i = c.loop-seq.seq in
    let known = c.loop-seq.latest in (
      each_next i (slot_well_formed cfg xs from) c.loop-seq.invariant.0 (given told).0,
      elim c.if-is_delivered.branch [
        | then-is_delivered w ↦
            ap value_in (w.latest-is ∙ w.or-latest.ensures)
            ∙ latest-next cfg xs from i w.read.result known (said told true w.if-is_delivered.true ∙ sym w.read.ensures) c.loop-seq.invariant.1
        | else-is_delivered w ↦ ap value_in w.latest-is ∙ latest-next cfg xs from i None known (said told false w.if-is_delivered.false) c.loop-seq.invariant.1
      ],
    )

pub returns : goal.returns
unfolding sender_well_formed latest
returns c =
    let end : c.loop-seq.seq ≡ slots = omega arith in
    (rw end at c.loop-seq.invariant.0, rw end at c.loop-seq.invariant.1)
