-- R4.2 and R4.3: the buffer with the records of a day: one record of it, and another stored in its place.
-- Assumes nothing.
use Rattle.std.specs.Prelude.{Bool, not, List, ◌++◌, ℕ, ◌+◌, eqb, length, take, drop}
use Rattle.octets.specs.Octets.{part}
use Rattle.config.specs.declared.Config.{Config}
use Rattle.config.specs.declared.Slot.{Slot}
use Rattle.config.specs.Config.{slot_of_day, place, record_size, records_size}

-- a slot of our own
abbrev pub own_slot : Config → (seq : ℕ) → Slot
own_slot config seq = slot_of_day config config.own seq

-- the bytes of a slot's record
unfoldable pub record_at : Config → Slot → (records : List ℕ) → List ℕ
record_at config slot records = part (place config slot) record_size records

-- a buffer with another record's bytes at a place, and all else as it was
unfoldable pub replaced : (start : ℕ) (bytes records : List ℕ) → List ℕ
replaced start bytes records = take start records ++ (bytes ++ drop (start + record_size) records)

-- with them in a slot's place
unfoldable pub stored : Config → Slot → (bytes records : List ℕ) → List ℕ
stored config slot bytes records = replaced (place config slot) bytes records

-- R5.5: 20 applies
abbrev pub wrong_size : Config → List ℕ → Bool
wrong_size config records = not (eqb (length records) (records_size config))
