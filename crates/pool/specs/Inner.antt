-- What the private functions of this crate promise each other. No public contract rests on these; a reader may pass them over.
-- Assumes nothing.
use Rattle.std.specs.Prelude.{◌≡◌, true, false, List, ℕ, ◌≤◌, ℤ, take, Option, Result, Ok, Err}
use Rattle.refusal.specs.declared.Refusal.{Refusal}
use Rattle.refusal.specs.declared.Refusal.TheVariants.{MalformedRecord}
use Rattle.config.specs.declared.Config.{Config}
use Rattle.calls.specs.WellFormed.{sender_well_formed, all_well_formed}
use Rattle.setpoint.specs.Setpoint.{value_in}
use Rattle.pool.specs.Pool.{latest, pool}

-- what a scan says of a sender's records: its latest setpoint, if all of them are well-formed
abbrev pub Scanned : Config → (records : List ℕ) → (sender : ℕ) → Result (Option ℤ) Refusal → Type 0
Scanned config records sender (Ok found) = (sender_well_formed config records sender ≡ true) × (value_in found ≡ latest config records sender)
Scanned config records sender (Err reason) = (sender_well_formed config records sender ≡ false) × (reason ≡ MalformedRecord)

-- what is collected: the pool in the first values, if all records are well-formed
abbrev pub Collects : Config → (records : List ℕ) → Result ℕ Refusal → (values : List ℤ) → Type 0
Collects config records (Ok count) values = (all_well_formed config records ≡ true) × (count ≤ 64) × (take count values ≡ pool config records)
Collects config records (Err reason) values = (all_well_formed config records ≡ false) × (reason ≡ MalformedRecord)
