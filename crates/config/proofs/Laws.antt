-- What `good` says, and what of the quorum the protocol's argument rests on. Callers go by these laws and not by the formulas.
-- The argument on values rests on `quorum-intersects` and `quorum-reachable` (R2.8), which hold of any quorum in range, and the claim of RULES section 14
-- on `good-at-node` and `quorum-at-node` besides: that all nodes have it.
-- Assumes nothing.
use mathlib.Core.Path.{◌≡◌, refl, sym, ap, ap₂, ◌∙◌}
use mathlib.Core.Bool.{Bool, true, false, and-eq-true_iff}
use Prim.Native.Nat.{ℕ, ◌+◌, ◌*◌, ◌≤◌, ◌<◌}
use native.Mathlib.Nat.{not-le_of_lt}
use native.Mathlib.Omega.{arith}
use lib.Dec.{ltb, eqb}
use lib.Pow.{le_ones, lt_of_le_ones}
use borrow.Author.Tests.{lt-ltb, le-leb, leb-true, ltb-true, eqb-true, eq-eqb}
use Rattle.config.specs.declared.Config.{Config}
use Rattle.config.specs.declared.Slot.{Slot}
use Rattle.signers.specs.Sets.{NodeSet, count}
use Rattle.signers.specs.Signers.{member, below, within, size}
use Rattle.signers.proofs.Members.{lt-within, within-lt, below-ones, member-ones, words-share-correct}
use Rattle.config.specs.Config.{least_quorum, most_quorum, with_own, good, quorum, mask, slots, in_range, same_slot, record_size, slot_place, place, records_size}

-- The six bounds of a good configuration.
pub record Good (config : Config) : Type 0 where
  pub some : 1 ≤ config.n
  pub most : config.n ≤ 64
  pub resilient : 3 * config.t + 2 * config.d < config.n
  pub known : config.own < config.n
  pub least-quorum : least_quorum config.n config.t ≤ config.q
  pub most-quorum : config.q ≤ most_quorum config.n config.t config.d

-- what `good` tests, as bounds, and back
pub good-says : (config : Config) → good config ≡ true → Good config
unfolding good
good-says config e =
    let (chosen, most-quorum) = (and-eq-true_iff _ _).0 e in
    let (nodes, least-quorum) = (and-eq-true_iff _ _).0 chosen in
    let (first, known) = (and-eq-true_iff _ _).0 nodes in
    let (range, resilient) = (and-eq-true_iff _ _).0 first in
    let (some, most) = (and-eq-true_iff _ _).0 range in
    record {
      some = leb-true _ _ some;
      most = leb-true _ _ most;
      resilient = ltb-true _ _ resilient;
      known = ltb-true _ _ known;
      least-quorum = leb-true _ _ least-quorum;
      most-quorum = leb-true _ _ most-quorum;
    }

pub says-good : (config : Config) → Good config → good config ≡ true
unfolding good
says-good config g =
    simp (
      le-leb _ _ g.some,
      le-leb _ _ g.most,
      lt-ltb _ _ g.resilient,
      lt-ltb _ _ g.known,
      le-leb _ _ g.least-quorum,
      le-leb _ _ g.most-quorum,
    )

-- a configuration that breaks a bound is not good
pub not_good : (config : Config) → (Good config → ⊥) → good config ≡ false
not_good config h = go (good config) refl
  where
    go : (b : Bool) → good config ≡ b → good config ≡ false
    go true e = absurd (h (good-says config e))
    go false e = e

-- where it is good at one node, it is good at each
pub good-at-node : (config : Config) (node : ℕ) → good config ≡ true → node < config.n → good (with_own config node) ≡ true
unfolding with_own
good-at-node config node e known =
    let g = good-says config e in
    says-good (with_own config node) (record {
      some = g.some;
      most = g.most;
      resilient = g.resilient;
      known = known;
      least-quorum = g.least-quorum;
      most-quorum = g.most-quorum;
    })

-- the mask is the nodes below n
pub mask_below : (config : Config) → good config ≡ true → below config.n ≡ mask config
unfolding mask
mask_below config e = rw e (below-ones config.n (good-says config e).most)

-- ---- slots

-- a slot is in range where its sender and its number are below their bounds
pub range-says : (config : Config) (slot : Slot) → in_range config slot ≡ true → (slot.sender < config.n) × (slot.seq < slots)
unfolding in_range
range-says config slot r = let (s, k) = (and-eq-true_iff _ _).0 r in (ltb-true slot.sender config.n s, ltb-true slot.seq slots k)

pub in-range : (config : Config) (slot : Slot) → slot.sender < config.n → slot.seq < slots → in_range config slot ≡ true
unfolding in_range
in-range config slot s k = rw (lt-ltb slot.sender config.n s, lt-ltb slot.seq slots k)

-- where its record starts, and that the record lies within the records of the day
pub place-slot : (config : Config) (slot : Slot) → good config ≡ true → in_range config slot ≡ true → place config slot ≡ slot_place slot
unfolding place
place-slot config slot g r = rw (g, r)

pub place_is : (config : Config) (slot : Slot) → good config ≡ true → in_range config slot ≡ true → place config slot ≡ record_size * (slots * slot.sender + slot.seq)
unfolding slot_place
place_is config slot g r = place-slot config slot g r

pub place-room : (config : Config) (slot : Slot) → good config ≡ true → in_range config slot ≡ true → place config slot + record_size ≤ records_size config
unfolding records_size
place-room config slot g r =
    let (known, below) = range-says config slot r in
    rw (place_is config slot g r) (omega arith)

-- the records of a day are few enough that no sum of places wraps
pub records-fit : (config : Config) → good config ≡ true → records_size config ≤ record_size * slots * 64
unfolding records_size
records-fit config g = let most = (good-says config g).most in omega arith

-- slots that pass the test are one slot, and a slot passes it with itself
pub same-slot-says : (first second : Slot) → same_slot first second ≡ true → first ≡ second
unfolding same_slot
same-slot-says first second e =
    let (days, others) = (and-eq-true_iff (eqb first.day second.day) _).0 e in
    let (senders, seqs) = (and-eq-true_iff (eqb first.sender second.sender) _).0 others in
    ap₂ {C = Slot} (λ (d s : ℕ). record { day = d; sender = s; seq = first.seq }) (eqb-true _ _ days) (eqb-true _ _ senders)
    ∙ ap {B = Slot} (λ (k : ℕ). record { day = second.day; sender = second.sender; seq = k }) (eqb-true _ _ seqs)

pub same-slot-self : (slot : Slot) → same_slot slot slot ≡ true
unfolding same_slot
same-slot-self slot = rw (eq-eqb slot.day slot.day refl, eq-eqb slot.sender slot.sender refl, eq-eqb slot.seq slot.seq refl)

-- ---- signer sets

-- a set is within the nodes where it is at most the mask, and only there
pub within-mask : (config : Config) (set : ℕ) → good config ≡ true → set ≤ mask config → within set config.n ≡ true
unfolding mask
within-mask config set e h = lt-within set config.n (lt_of_le_ones config.n (rw e at h))

pub past-mask : (config : Config) (set : ℕ) → good config ≡ true → mask config < set → within set config.n ≡ false
unfolding mask
past-mask config set e h = go (within set config.n) refl
  where
    go : (b : Bool) → within set config.n ≡ b → within set config.n ≡ false
    go true q = absurd (not-le_of_lt (rw e at h) (le_ones config.n (within-lt set config.n q)))
    go false q = q

-- the members of the mask are the nodes 0 to n - 1
pub mask-members : (config : Config) (node : ℕ) → good config ≡ true → member (mask config) node ≡ ltb node config.n
unfolding mask
mask-members config node e = rw e (member-ones config.n node)

-- ---- the quorum

-- R2.3: the quorum of a good configuration is the one that the site chose
pub quorum-chosen : (config : Config) → good config ≡ true → quorum config ≡ config.q
unfolding quorum
quorum-chosen config e = rw e

-- R2.8: twice a quorum is more than n + t, so that two quorums share more than t nodes
pub quorum-intersects : (config : Config) → good config ≡ true → config.n + config.t < quorum config + quorum config
quorum-intersects config e = let least = (good-says config e).least-quorum in rw (quorum-chosen config e) (omega arith)

-- so two signer sets of a quorum each share a correct node
pub signers-share-correct : (config : Config) (a b : ℕ) (faulty : NodeSet) → good config ≡ true → within a config.n ≡ true → within b config.n ≡ true
    → count faulty config.n ≤ config.t → quorum config ≤ size a → quorum config ≤ size b
    → (u : ℕ) × (u < config.n) × (member a u ≡ true) × (member b u ≡ true) × (faulty u ≡ false)
signers-share-correct config a b faulty g ha hb few qa qb =
    words-share-correct a b config.n config.t (quorum config) faulty ha hb (quorum-intersects config g) few qa qb

-- R2.8: the correct nodes that every sending reaches are a quorum by themselves: q is at most n - t - d
pub quorum-reachable : (config : Config) → good config ≡ true → quorum config + config.t + config.d ≤ config.n
quorum-reachable config e = let g = good-says config e in rw (quorum-chosen config e) (omega arith)

-- all nodes of a system have one quorum
pub quorum-at-node : (config : Config) (node : ℕ) → good config ≡ true → node < config.n → quorum (with_own config node) ≡ quorum config
unfolding with_own
quorum-at-node config node e known = quorum-chosen (with_own config node) (good-at-node config node e known) ∙ sym (quorum-chosen config e)
