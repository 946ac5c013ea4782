-- R5.1: a refusal changes nothing, whichever call it is of, and counts nothing. R5.6: when 7 never comes. bundle's specs/Refusals.antt has the same of
-- reading and writing. They are proved in proofs/NoEffect.antt.
-- Assumes nothing.
use Rattle.std.specs.Prelude.{◌≡◌, List, [], ℕ, Result}
use Rattle.octets.specs.Octets.{Bytes}
use Rattle.refusal.specs.Outcome.{refused}
use Rattle.refusal.specs.declared.Refusal.{Refusal}
use Rattle.config.specs.declared.Config.{Config}
use Rattle.config.specs.declared.Slot.{Slot}
use Rattle.calls.specs.declared.Receipt.{Receipt}
use Rattle.calls.specs.Open.{opened, open_records}
use Rattle.calls.specs.Broadcast.{broadcast, broadcast_records, broadcast_out, announcement_of, announcement_count}
use Rattle.calls.specs.Receive.{receive, receive_records, receive_out, receipt_of, receipt_count}
use Rattle.calls.specs.Showing.{delivered, delivered_part, delivered_place}

-- Every byte of the records and of the outgoing bytes is as it was, whatever their lengths.
abbrev pub RefusedOpenChangesNothing : Type 0
RefusedOpenChangesNothing = (config : Config) (records : List ℕ) (number : ℕ) → opened config records ≡ refused number → open_records config records ≡ records

abbrev pub RefusedBroadcastChangesNothing : Type 0
RefusedBroadcastChangesNothing =
    (config : Config) (payload records out : List ℕ) (number : ℕ) → broadcast config payload records out ≡ refused number
    → (broadcast_records config payload records out ≡ records) × (broadcast_out config payload records out ≡ out)

abbrev pub RefusedReceiveChangesNothing : Type 0
RefusedReceiveChangesNothing =
    (config : Config) (bundle records out : List ℕ) (number : ℕ) → receive config bundle records out ≡ refused number
    → (receive_records config bundle records out ≡ records) × (receive_out config bundle records out ≡ out)

-- R9.2: showing has no buffer to change, and gives the empty part at the records' start.
abbrev pub RefusedShowingGivesNothing : Type 0
RefusedShowingGivesNothing =
    (config : Config) (slot : Slot) (records : List ℕ) (number : ℕ) → delivered config slot records ≡ refused number
    → (delivered_part config slot records ≡ []) × (delivered_place config slot records ≡ 0)

-- The count that goes with a refusal is 0.
abbrev pub RefusalCountsNothing : Type 0
RefusalCountsNothing =
    ((answer : Result ℕ Refusal) (number : ℕ) → announcement_of answer ≡ refused number → announcement_count answer ≡ 0)
    × ((answer : Result Receipt Refusal) (number : ℕ) → receipt_of answer ≡ refused number → receipt_count answer ≡ 0)

-- With 64 nodes receiving does not refuse by 7 either; that a bundle's elements are bytes is what their type says.
abbrev pub ReceiveNeverSevenWith64 : Type 0
ReceiveNeverSevenWith64 =
    (config : Config) (bundle records out : List ℕ) → config.n ≡ 64 → Bytes bundle → receive config bundle records out ≡ refused 7 → ⊥
