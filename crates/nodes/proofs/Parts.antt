-- The records of up to eight nodes in one buffer: what is put at a node is read there, every other node's stay, and so does the length.
-- A node's records are passed to a call as a part of the buffer, and the part that comes back is what is put there.
-- Assumes nothing.
use mathlib.Core.Path.{◌≡◌, refl}
use mathlib.Core.Bool.{Bool, true, false, cond}
use mathlib.Core.List.{List, ◌++◌}
use mathlib.Core.Logic.{◌⊎◌, inl, inr}
use Prim.Native.Nat.{ℕ, ◌+◌, ◌-◌, ◌*◌, ◌≤◌, ◌<◌}
use native.Mathlib.Omega.{arith}
use lib.Dec.{leb, ltb}
use lib.ListN.{length, take, drop, length-append, length-drop}
use lib.Seq.{length-take-le, drop-drop}
use borrow.Author.Tests.{leb-true, le-leb, ltb-true, ltb-false}
use Rattle.octets.proofs.Numbers.{length_part}
use Rattle.config.specs.declared.Config.{Config}
use Rattle.config.specs.Config.{records_size}
use Rattle.calls.proofs.Records.{paste-part, paste-other}
use Rattle.nodes.specs.Nodes.{most_nodes, node_space, records_space, records_at, put_records, played_nodes}

-- a system of at most eight nodes plays them all
pub all-played : (config : Config) → config.n ≤ most_nodes → played_nodes config ≡ config.n
unfolding played_nodes
all-played config few = rw (le-leb config.n most_nodes few)

-- a node that is played is one of such a system
pub is-played : (config : Config) (node : ℕ) → node < played_nodes config → (config.n ≤ most_nodes) × (node < config.n)
unfolding played_nodes
is-played config node h = go (leb config.n most_nodes) refl h
  where
    go : (b : Bool) → leb config.n most_nodes ≡ b → node < cond b config.n 0 → (config.n ≤ most_nodes) × (node < config.n)
    go true e l = (leb-true _ _ e, l)
    go false e l = absurd (omega arith)

-- a node's part lies within the buffer
fits : (config : Config) (node : ℕ) → config.n ≤ most_nodes → node < config.n → node_space * node + records_size config ≤ records_space
unfolding records_size
fits config node few known = omega arith

-- also where how many are played, and the size of the records, are known by equations
pub part-fits : (config : Config) (n size node : ℕ) → n ≡ played_nodes config → size ≡ records_size config → node < n
    → node_space * node + size ≤ records_space
part-fits config n size node many long h =
    let (few, known) = is-played config node (omega arith) in
    omega (arith, fits config node few known)

module _ (config : Config) (few : config.n ≤ most_nodes) (records : List ℕ) (size : length records ≡ records_space) where
  -- a node's records lie within the buffer
  within : (node : ℕ) → node < config.n → node_space * node + records_size config ≤ length records
  within node known = omega (arith, fits config node few known)

  -- and take no more than the node's part
  narrow : records_size config ≤ node_space
  unfolding records_size
  narrow = omega arith

  -- they have the length that the node's calls ask for
  pub at_length : (node : ℕ) → node < config.n → length (records_at config node records) ≡ records_size config
  unfolding records_at
  at_length node known = length_part records (node_space * node) (records_size config) (within node known)

  module _ (node : ℕ) (known : node < config.n) (new : List ℕ) (long : length new ≡ records_size config) where
    -- putting others there leaves the buffer's length,
    pub put-length : length (put_records config node new records) ≡ records_space
    unfolding put_records
    put-length =
        let front : length (take (node_space * node) records) ≡ node_space * node = length-take-le (node_space * node) records (omega (arith, within node known)) in
        simp (length-append, front, length-drop) (omega (arith, within node known))

    -- is read back at the node,
    pub put-there : records_at config node (put_records config node new records) ≡ new
    unfolding records_at put_records
    put-there = paste-part records new (node_space * node) (records_size config) long (within node known)

    -- and leaves every other node's
    pub put-elsewhere : (v : ℕ) → v < config.n → (v ≡ node → ⊥) → records_at config v (put_records config node new records) ≡ records_at config v records
    unfolding records_at put_records
    put-elsewhere v here other =
        paste-other records new (node_space * node) (records_size config) long (within node known) (node_space * v) (records_size config) (within v here)
        (apart (ltb v node) refl (ltb node v) refl)
      where
        apart : (a : Bool) → ltb v node ≡ a → (b : Bool) → ltb node v ≡ b
            → (node_space * v + records_size config ≤ node_space * node) ⊎ (node_space * node + records_size config ≤ node_space * v)
        apart true e b f = inl (omega (arith, ltb-true v node e, narrow))
        apart false e true f = inr (omega (arith, ltb-true node v f, narrow))
        apart false e false f = absurd (other (omega (arith, ltb-false v node e, ltb-false node v f)))

-- a node's records as the part that is passed to a call, and the buffer with what comes back in its place
module _ (config : Config) (node size : ℕ) (long : size ≡ records_size config) (records : List ℕ) where
  whole : node_space * node + size - node_space * node ≡ records_size config
  whole = omega arith

  pub part_at : take (node_space * node + size - node_space * node) (drop (node_space * node) records) ≡ records_at config node records
  unfolding records_at
  part_at = rw whole

  pub part-put : (new : List ℕ)
      → take (node_space * node) records ++ (new ++ drop (node_space * node + size - node_space * node) (drop (node_space * node) records))
      ≡ put_records config node new records
  unfolding put_records
  part-put new = rw (whole, drop-drop (records_size config) (node_space * node) records)
