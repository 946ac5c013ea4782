-- `compare` meets its contract: the records of the senders below `sender` are well-formed, and the word has who is named by them. Assumes nothing.
use mathlib.Core.Path.{◌≡◌, refl}
use native.Mathlib.Omega.{arith}
use Rattle.std.proofs.lemmas.Result.{err_from_is_err_and}
use Rattle.signers.proofs.Members.{nobody}
use Rattle.protocol.specs.Trace.{each}
use Rattle.protocol.proofs.ComputedTests.{each_next, each-fails}
use Rattle.equivocators.specs.Equivocators.{some_below, equivocates}
use Rattle.equivocators.specs.Inner.{sender_formed, sender_names}
use Rattle.equivocators.proofs.Below.{names-next}
use Rattle.equivocators.proofs.Pair.compare.Goals as goal

pub loop-sender-init : goal.loop-sender-init
unfolding each some_below
loop-sender-init c = record { formed = refl; names = nobody }

pub returns-in_err-compare_sender : goal.returns-in_err-compare_sender
returns-in_err-compare_sender c =
    let s = c.args.self in
    let p = err_from_is_err_and c.from_residual.result c.from_residual.ensures.1 in
    rw (p.1, p.2) (
      each-fails s.here.config.n c.loop-sender.sender (sender_formed s.here.config s.there.config.own s.here.records.now s.there.records.now) c.loop-sender-test.true
          c.in_err-compare_sender.ensures.0,
      c.in_err-compare_sender.ensures.1,
    )

pub loop-sender-preserved : goal.loop-sender-preserved
loop-sender-preserved c =
    let s = c.args.self in
    record {
      formed =
          each_next c.loop-sender.sender (sender_formed s.here.config s.there.config.own s.here.records.now s.there.records.now) c.loop-sender.invariant.formed
          c.in_ok-compare_sender.ensures.0;
      names =
          names-next (sender_names s.here.config s.there.config.own s.here.records.now s.there.records.now) c.loop-sender.sender _ _ _ c.union-named.ensures
          c.loop-sender.invariant.names c.in_ok-compare_sender.ensures.1;
    }

pub returns : goal.returns
unfolding equivocates
returns c =
    let end : c.loop-sender.sender ≡ c.args.self.here.config.n = omega arith in
    (rw end at c.loop-sender.invariant.formed, rw end at c.loop-sender.invariant.names)
