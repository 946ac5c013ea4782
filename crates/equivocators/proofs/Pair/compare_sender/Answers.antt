-- `compare_sender` meets its contract: the records with numbers below `seq` are well-formed, and the word has who is named by them. Assumes nothing.
use mathlib.Core.Path.{refl}
use Rattle.std.proofs.lemmas.Result.{err_from_is_err_and}
use Rattle.signers.proofs.Members.{nobody}
use Rattle.config.specs.Config.{slots}
use Rattle.protocol.specs.Trace.{each}
use Rattle.protocol.proofs.ComputedTests.{each_next, each-fails}
use Rattle.equivocators.specs.Equivocators.{some_below}
use Rattle.equivocators.specs.Inner.{slot_formed, slot_names}
use Rattle.equivocators.proofs.Below.{names-next}
use Rattle.equivocators.proofs.Pair.compare_sender.Goals as goal

pub loop-seq-init : goal.loop-seq-init
unfolding each some_below
loop-seq-init c = record { formed = refl; names = nobody }

pub returns-in_err-compare_slot : goal.returns-in_err-compare_slot
returns-in_err-compare_slot c =
    let s = c.args.self in
    let p = err_from_is_err_and c.from_residual.result c.from_residual.ensures.1 in
    rw (p.1, p.2) (
      each-fails slots c.loop-seq.seq (slot_formed s.here.config s.there.config.own s.here.records.now s.there.records.now c.args.sender) c.loop-seq-test.true
          c.in_err-compare_slot.ensures.0,
      c.in_err-compare_slot.ensures.1,
    )

pub loop-seq-preserved : goal.loop-seq-preserved
loop-seq-preserved c =
    let s = c.args.self in
    record {
      formed =
          each_next c.loop-seq.seq (slot_formed s.here.config s.there.config.own s.here.records.now s.there.records.now c.args.sender) c.loop-seq.invariant.formed
          c.in_ok-compare_slot.ensures.0;
      names =
          names-next (slot_names s.here.config s.there.config.own s.here.records.now s.there.records.now c.args.sender) c.loop-seq.seq _ _ _ c.union-named.ensures
          c.loop-seq.invariant.names c.in_ok-compare_slot.ensures.1;
    }
