-- What a call changes among the records (R12.1), and what its answer depends on (R12.2): two calls that agree on that agree on the answer. They are proved in
-- proofs/Locality.antt.
-- Assumes nothing.
use Rattle.std.specs.Prelude.{◌≡◌, ◌⊎◌, Bool, true, not, ◌||◌, List, ℕ, ◌+◌, ◌≤◌, ◌<◌, length, get_or}
use Rattle.octets.specs.Octets.{blank}
use Rattle.refusal.specs.Outcome.{done, plain}
use Rattle.config.specs.declared.Config.{Config}
use Rattle.config.specs.declared.Slot.{Slot}
use Rattle.config.specs.Config.{place, record_size, slots}
use Rattle.protocol.specs.Update.{sends, Update}
use Rattle.record.specs.Record.{well_formed}
use Rattle.bundle.specs.Bundle.{slot_in}
use Rattle.calls.specs.Records.{own_slot, record_at}
use Rattle.calls.specs.Open.{opened}
use Rattle.calls.specs.Broadcast.{broadcast, broadcast_records, broadcast_out}
use Rattle.calls.specs.Receive.{receive, receive_records, receive_out}
use Rattle.calls.specs.Showing.{delivered, delivered_part}

-- ---- what a call changes: R12.1

-- the buffers are equally long, and agree at every byte that is not one of the slot's record
pub record OnlyRecord (config : Config) (slot : Slot) (before after : List ℕ) : Type 0 where
  pub as_long : length after ≡ length before
  pub elsewhere : (i : ℕ) → (i < place config slot) ⊎ (place config slot + record_size ≤ i) → get_or after i 0 ≡ get_or before i 0

abbrev pub BroadcastChanges : Type 0
BroadcastChanges =
    (config : Config) (payload records out : List ℕ) (seq : ℕ) → broadcast config payload records out ≡ done seq
    → OnlyRecord config (own_slot config seq) records (broadcast_records config payload records out)

-- refused or done, receiving changes nothing but the record of the bundle's slot
abbrev pub ReceiveChanges : Type 0
ReceiveChanges =
    (config : Config) (bundle records out : List ℕ)
    → OnlyRecord config (slot_in bundle) records (receive_records config bundle records out)

-- ---- what an answer depends on: R12.2

-- opening: the configuration and the buffer's length
abbrev pub OpenDepends : Type 0
OpenDepends = (config : Config) (records others : List ℕ) → length records ≡ length others → plain (opened config records) ≡ plain (opened config others)

-- Receiving: the configuration, the bundle, the slot's record and the lengths. The outcome has the answer and the record afterwards, so the count and the
-- bytes stored too; what is sent is the same over any outgoing bytes.
abbrev pub ReceiveDepends : Type 0
ReceiveDepends =
    (config : Config) (bundle records others out other : List ℕ)
    → length records ≡ length others → length out ≡ length other
    → record_at config (slot_in bundle) records ≡ record_at config (slot_in bundle) others
    → (receive config bundle records out ≡ receive config bundle others other)
    × ((result : Update) → receive config bundle records out ≡ done result → sends result.answer ≡ true
    → receive_out config bundle records out ≡ receive_out config bundle others other)

-- a record at which the search for a number ends: it is all zero, or not well-formed
abbrev pub ends : Config → List ℕ → Bool
ends config bytes = blank bytes || not (well_formed config config.own bytes)

-- Broadcasting: besides, our records up to the first at which the search ends, whether it is used or refused
abbrev pub BroadcastDepends : Type 0
BroadcastDepends =
    (config : Config) (payload records others out other : List ℕ) (last : ℕ)
    → length records ≡ length others → length out ≡ length other
    → last < slots → ends config (record_at config (own_slot config last) records) ≡ true
    → ((k : ℕ) → k ≤ last → record_at config (own_slot config k) records ≡ record_at config (own_slot config k) others)
    → (broadcast config payload records out ≡ broadcast config payload others other)
    × ((seq : ℕ) → broadcast config payload records out ≡ done seq → broadcast_out config payload records out ≡ broadcast_out config payload others other)

-- and wherever it ends, also where it ends at none, our sixteen records and no others
abbrev pub BroadcastOwn : Type 0
BroadcastOwn =
    (config : Config) (payload records others out other : List ℕ)
    → length records ≡ length others → length out ≡ length other
    → ((k : ℕ) → k < slots → record_at config (own_slot config k) records ≡ record_at config (own_slot config k) others)
    → broadcast config payload records out ≡ broadcast config payload others other

-- showing: the configuration, the slot, its record and the length
abbrev pub DeliveredDepends : Type 0
DeliveredDepends =
    (config : Config) (slot : Slot) (records others : List ℕ) → length records ≡ length others
    → record_at config slot records ≡ record_at config slot others
    → (delivered config slot records ≡ delivered config slot others)
    × (delivered_part config slot records ≡ delivered_part config slot others)
