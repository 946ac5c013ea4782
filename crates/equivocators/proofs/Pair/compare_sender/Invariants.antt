-- `compare_sender` meets its contract: the records with numbers below `seq` are well-formed, and the word has who is named by them. Assumes nothing.
use mathlib.Core.Path.{◌≡◌}
use mathlib.Core.Bool.{true}
use Rattle.protocol.specs.Trace.{each}
use Rattle.equivocators.specs.Equivocators.{some_below}
use Rattle.equivocators.specs.Inner.{Names, slot_formed, slot_names}
use Rattle.equivocators.proofs.Pair.compare_sender.Given as goal

abbrev pub invariant-loop-seq : goal.invariant-loop-seq
invariant-loop-seq l =
    let here = l.self.here in
    let there = l.self.there in
    record {
      formed : each (slot_formed here.config there.config.own here.records.now there.records.now l.sender) l.seq ≡ true;
      names : Names (λ node. some_below (λ k. slot_names here.config there.config.own here.records.now there.records.now l.sender k node) l.seq) l.named;
    }
