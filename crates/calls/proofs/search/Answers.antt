-- `search` meets its contract: from the number at which the loop stands, the search finds what it finds from 0 on. Assumes nothing.
use mathlib.Core.Path.{sym, ap, ◌∙◌}
use Prim.Native.Nat.{ℕ, suc, ◌-◌}
use native.Mathlib.Numerals.{add-one}
use native.Mathlib.Omega.{arith}
use Rattle.octets.specs.Octets.{blank}
use Rattle.config.specs.Config.{slots}
use Rattle.config.proofs.Laws.{good-says}
use Rattle.record.specs.Record.{well_formed}
use Rattle.calls.specs.Broadcast.{search as search_of}
use Rattle.calls.specs.FreeNumber.{Used}
use Rattle.calls.proofs.FreeNumber.{look-free, look-used, look-malformed}
use Rattle.calls.proofs.search.Goals as goal

pub record-record-requires : goal.record-record-requires
record-record-requires c = record { sender_lt_n = (good-says _ c.args.day.config_value).known; seq_lt_slots = c.loop-seq-test.true }

pub returns-then-is_blank : goal.returns-then-is_blank
returns-then-is_blank c =
    sym (look-free c.args.day.config c.args.day.records.now c.loop-seq.seq (slots - suc c.loop-seq.seq)
    (ap blank (sym c.record-record.ensures) ∙ sym c.if-is_blank.ensures))
    ∙ c.loop-seq.invariant (suc (slots - suc c.loop-seq.seq)) (omega (arith, c.loop-seq-test.true))

pub returns-then-not-well_formed : goal.returns-then-not-well_formed
returns-then-not-well_formed c =
    sym (look-malformed c.args.day.config c.args.day.records.now c.loop-seq.seq (slots - suc c.loop-seq.seq)
    (ap blank (sym c.record-record.ensures) ∙ sym c.if-is_blank.ensures)
    (ap (well_formed c.args.day.config c.args.day.config.own) (sym c.record-record.ensures) ∙ sym c.if-not-well_formed.ensures))
    ∙ c.loop-seq.invariant (suc (slots - suc c.loop-seq.seq)) (omega (arith, c.loop-seq-test.true))

pub loop-seq-preserved : goal.loop-seq-preserved
loop-seq-preserved c left e =
    let used : Used c.args.day.config c.args.day.records.now c.loop-seq.seq
    = record {
      formed = ap (well_formed c.args.day.config c.args.day.config.own) (sym c.record-record.ensures) ∙ sym c.if-not-well_formed.ensures;
      not_blank = ap blank (sym c.record-record.ensures) ∙ sym c.if-is_blank.ensures;
    } in
    ap (λ (k : ℕ). search_of c.args.day.config c.args.day.records.now k left) (add-one c.loop-seq.seq)
    ∙ sym (look-used c.args.day.config c.args.day.records.now c.loop-seq.seq left used)
    ∙ c.loop-seq.invariant (suc left) (omega arith)

pub returns : goal.returns
unfolding search_of
returns c = c.loop-seq.invariant 0 (omega (arith, c.loop-seq.auto.seq-end, c.loop-seq-test.false))
