-- R4.4 of a whole buffer: all its records are well-formed. 21 asks it where a call looks at every record (R5.5).
-- Assumes nothing.
use Rattle.std.specs.Prelude.{Bool, List, ℕ}
use Rattle.config.specs.declared.Config.{Config}
use Rattle.config.specs.Config.{slots, slot_of_day}
use Rattle.protocol.specs.Trace.{each}
use Rattle.record.specs.Record.{well_formed}
use Rattle.calls.specs.Records.{record_at}

-- the record of a slot, those of a sender, and all
unfoldable pub slot_well_formed : Config → (records : List ℕ) (sender seq : ℕ) → Bool
slot_well_formed config records sender seq = well_formed config sender (record_at config (slot_of_day config sender seq) records)

unfoldable pub sender_well_formed : Config → (records : List ℕ) (sender : ℕ) → Bool
sender_well_formed config records sender = each (slot_well_formed config records sender) slots

unfoldable pub all_well_formed : Config → (records : List ℕ) → Bool
all_well_formed config records = each (sender_well_formed config records) config.n
