-- `compare` meets its contract: the records of the senders below `sender` are well-formed, and the word has who is named by them. Assumes nothing.
use mathlib.Core.Path.{◌≡◌}
use mathlib.Core.Bool.{true}
use Rattle.protocol.specs.Trace.{each}
use Rattle.equivocators.specs.Equivocators.{some_below}
use Rattle.equivocators.specs.Inner.{Names, sender_formed, sender_names}
use Rattle.equivocators.proofs.Pair.compare.Given as goal

abbrev pub invariant-loop-sender : goal.invariant-loop-sender
invariant-loop-sender l =
    let here = l.self.here in
    let there = l.self.there in
    record {
      formed : each (sender_formed here.config there.config.own here.records.now there.records.now) l.sender ≡ true;
      names : Names (λ node. some_below (λ k. sender_names here.config there.config.own here.records.now there.records.now k node) l.sender) l.named;
    }
