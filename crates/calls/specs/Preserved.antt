-- What the calls keep from one to the next: that records are well-formed, and that what was delivered is shown. They are proved in proofs/Preserved.antt.
-- Assumes nothing.
use Rattle.std.specs.Prelude.{◌≡◌, true, List, ℕ, ◌+◌, length}
use Rattle.refusal.specs.Outcome.{done}
use Rattle.config.specs.declared.Config.{Config}
use Rattle.config.specs.declared.Slot.{Slot}
use Rattle.config.specs.Config.{good, in_range, place, records_size}
use Rattle.bundle.specs.declared.Header.{Header}
use Rattle.bundle.specs.Bundle.{read, payload_part, slot_of}
use Rattle.protocol.specs.Update.{delivers, Update}
use Rattle.record.specs.Record.{well_formed, payload_at}
use Rattle.calls.specs.Records.{record_at}
use Rattle.calls.specs.WellFormed.{all_well_formed}
use Rattle.calls.specs.Open.{open_records}
use Rattle.calls.specs.Broadcast.{broadcast_records}
use Rattle.calls.specs.Receive.{receive, receive_records}
use Rattle.calls.specs.Showing.{delivered, delivered_part}

-- each record that is well-formed in one buffer is so in another
abbrev pub StaysWellFormed : Config → (before after : List ℕ) → Type 0
StaysWellFormed config before after =
    (slot : Slot) → in_range config slot ≡ true → well_formed config slot.sender (record_at config slot before) ≡ true
    → well_formed config slot.sender (record_at config slot after) ≡ true

-- two buffers in which a slot is shown alike
abbrev pub SameShown : Config → Slot → (first second : List ℕ) → Type 0
SameShown config slot first second =
    (delivered config slot first ≡ delivered config slot second) × (delivered_part config slot first ≡ delivered_part config slot second)

-- R4.6: opening makes every record well-formed. Broadcasting and receiving leave each record so that was so, whatever the others are, and all three leave the
-- buffer its length. That no call is then refused by 21 is `NeverMalformed` of system's specs/Order.antt.
abbrev pub CallsKeepWellFormed : Type 0
CallsKeepWellFormed =
    (config : Config) (records : List ℕ) → good config ≡ true → length records ≡ records_size config
    → ((all_well_formed config (open_records config records) ≡ true) × (length (open_records config records) ≡ length records))
    × ((payload out : List ℕ)
    → StaysWellFormed config records (broadcast_records config payload records out) × (length (broadcast_records config payload records out) ≡ length records))
    × ((bundle out : List ℕ)
    → StaysWellFormed config records (receive_records config bundle records out) × (length (receive_records config bundle records out) ≡ length records))

-- R9.3: after a receive that is answered delivered, showing its slot gives the payload of the bundle given,
abbrev pub DeliveredIsShown : Type 0
DeliveredIsShown =
    (config : Config) (bundle records out : List ℕ) (h : Header) (result : Update)
    → read config bundle ≡ done h → receive config bundle records out ≡ done result → delivers result.answer ≡ true
    → (delivered config (slot_of h) (receive_records config bundle records out) ≡ done (place config (slot_of h) + payload_at))
    × (delivered_part config (slot_of h) (receive_records config bundle records out) ≡ payload_part config bundle)

-- and it stays shown: broadcasting and receiving leave what showing answers and gives.
abbrev pub ShownStays : Type 0
ShownStays =
    (config : Config) (records : List ℕ) (slot : Slot) (start : ℕ) → delivered config slot records ≡ done start
    → ((payload out : List ℕ) → SameShown config slot (broadcast_records config payload records out) records)
    × ((bundle out : List ℕ) → SameShown config slot (receive_records config bundle records out) records)
