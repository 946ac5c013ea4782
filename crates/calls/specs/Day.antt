-- R4.2: the records of a day beside the configuration that they belong to, as the calls that only read have them.
-- Assumes nothing.
use Rattle.std.specs.Prelude.{not, List, [], ◌∷◌, ℕ, ltb}
use Rattle.refusal.specs.Outcome.{Outcome, Reason, ◌if◌, unless}
use Rattle.config.specs.declared.Config.{Config}
use Rattle.config.specs.Config.{slots, slot_of_day}
use Rattle.calls.specs.declared.day.Day.{Day}
use Rattle.calls.specs.Records.{record_at}
use Rattle.calls.specs.WellFormed.{slot_well_formed}
use Rattle.calls.specs.Open.{open_reasons}

-- the configuration, and the bytes of the records
abbrev pub parts : Day → Config × List ℕ
parts day = (day.config, day.records.now)

-- a day is made of what passes the tests of opening it
unfoldable pub day_of : Config → (records : List ℕ) → Outcome (Config × List ℕ)
day_of config records = unless (open_reasons config records) (config, records)

-- R5.4 and R5.5: what is tested of a slot
unfoldable pub slot_reasons : Config → (records : List ℕ) (sender seq : ℕ) → List Reason
slot_reasons config records sender seq =
    (5 if not (ltb sender config.n))
    ∷ (6 if not (ltb seq slots))
    ∷ (21 if not (slot_well_formed config records sender seq))
    ∷ []

-- it gives the bytes of the record
unfoldable pub slot_record : Config → (records : List ℕ) (sender seq : ℕ) → Outcome (List ℕ)
slot_record config records sender seq = unless (slot_reasons config records sender seq) (record_at config (slot_of_day config sender seq) records)
