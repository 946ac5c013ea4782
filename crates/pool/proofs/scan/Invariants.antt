-- `scan` meets its contract: the records before `seq` are well-formed, and the latest setpoint in them is the one found. Assumes nothing.
use mathlib.Core.Path.{◌≡◌}
use mathlib.Core.Bool.{true}
use lib.ListN.{take}
use Rattle.protocol.specs.Trace.{each}
use Rattle.calls.specs.WellFormed.{slot_well_formed}
use Rattle.setpoint.specs.Setpoint.{value_in}
use Rattle.pool.specs.Pool.{delivered_setpoints}
use Rattle.pool.proofs.scan.Given as goal

abbrev pub invariant-loop-seq : goal.invariant-loop-seq
invariant-loop-seq l =
    (each (slot_well_formed l.day.config l.day.records.now l.sender) l.seq ≡ true)
    × (value_in l.latest ≡ take 1 (delivered_setpoints l.day.config l.day.records.now l.sender l.seq))
