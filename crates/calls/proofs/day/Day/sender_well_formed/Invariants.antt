-- `sender_well_formed` meets its contract: the records with numbers below `seq` are well-formed. Assumes nothing.
use mathlib.Core.Path.{◌≡◌}
use mathlib.Core.Bool.{true}
use Rattle.protocol.specs.Trace.{each}
use Rattle.calls.specs.WellFormed.{slot_well_formed}
use Rattle.calls.proofs.day.Day.sender_well_formed.Given as goal

abbrev pub invariant-loop-seq : goal.invariant-loop-seq
invariant-loop-seq l = each (slot_well_formed l.self.config l.self.records.now l.sender) l.seq ≡ true
