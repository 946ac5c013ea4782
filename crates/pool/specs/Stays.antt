-- R18.14: what is pooled stays: announcing and taking a bundle make no pool smaller, so that 27 does not come again once there were enough setpoints, until a
-- day is opened. It is proved in proofs/Stays.antt.
-- Assumes nothing.
use Rattle.std.specs.Prelude.{◌≡◌, true, List, ℕ, ◌≤◌, length}
use Rattle.config.specs.declared.Config.{Config}
use Rattle.calls.specs.Broadcast.{broadcast_records}
use Rattle.calls.specs.Receive.{receive_records}
use Rattle.pool.specs.Pool.{pool}
use Rattle.pool.specs.Between.{is_pooled}

-- each sender that is pooled in one buffer is pooled in another, and so the second pool is no smaller
abbrev pub PoolKept : Config → (before after : List ℕ) → Type 0
PoolKept config before after =
    ((sender : ℕ) → is_pooled config before sender ≡ true → is_pooled config after sender ≡ true)
    × (length (pool config before) ≤ length (pool config after))

abbrev pub PoolStays : Type 0
PoolStays =
    (config : Config) (records : List ℕ)
    → ((payload out : List ℕ) → PoolKept config records (broadcast_records config payload records out))
    × ((bundle out : List ℕ) → PoolKept config records (receive_records config bundle records out))
