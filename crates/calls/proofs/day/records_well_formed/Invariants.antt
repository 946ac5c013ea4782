-- `records_well_formed` meets its contract: the records of the senders below `sender` are well-formed. Assumes nothing.
use mathlib.Core.Path.{◌≡◌}
use mathlib.Core.Bool.{true}
use Rattle.protocol.specs.Trace.{each}
use Rattle.calls.specs.WellFormed.{sender_well_formed}
use Rattle.calls.proofs.day.records_well_formed.Given as goal

abbrev pub invariant-loop-sender : goal.invariant-loop-sender
invariant-loop-sender l = each (sender_well_formed l.fn.config l.fn.records) l.sender ≡ true
