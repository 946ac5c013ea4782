-- Demand 3, the claim of RULES section 14, slot by slot and as it stands, from the theorem on values: the claims on a list of calls are those on its acts, slot
-- by slot. In a slot that is out of range no call delivers, sends or announces.
-- Assumes nothing.
use mathlib.Core.Path.{◌≡◌, refl, sym, ap, ◌∙◌, subst}
use mathlib.Core.Logic.{◌⊎◌, inl, inr}
use mathlib.Core.Bool.{Bool, true, false, not, ◌&&◌, and-eq-true_iff}
use mathlib.Core.List.{List}
use mathlib.Core.Option.{Option}
use Prim.Native.Nat.{ℕ, ◌+◌, ◌^◌, ◌≤◌, ◌<◌, zero-le}
use native.Mathlib.Nat.{le_trans}
use native.Mathlib.Omega.{arith}
use lib.Dec.{ltb}
use borrow.Author.Tests.{lt-ltb}
use Rattle.signers.specs.Sets.{NodeSet, count, both}
use Rattle.signers.proofs.Counting.{count_same, count-mono, count-rest}
use Rattle.config.specs.declared.Slot.{Slot}
use Rattle.config.specs.Config.{with_own}
use Rattle.config.proofs.Laws.{good-says, same-slot-self, quorum-intersects, quorum-reachable}
use Rattle.protocol.specs.Update.{Record, Empty}
use Rattle.protocol.specs.Trace.{Trace}
use Rattle.protocol.specs.OneSlot as one-slot
use Rattle.protocol.specs.OneSlot.{OneSlotHolds, Quorum, Act}
use Rattle.protocol.proofs.WellFormed.{Bundled}
use Rattle.protocol.proofs.SentSoFar.{delivers_once, sends_at_most_twice, broadcasts_once}
use Rattle.protocol.proofs.OneSlot.{one-slot-holds}
use Rattle.system.specs.Demand3.{Call, System, config_at, in_slot, correct, correct_count, NearlyAll, records_after, announces_in, announces, delivers_in, delivers, sends_this, sends_in, reaches, ever, times, Assumed, Demand3}
use Rattle.system.specs.SlotBySlot.{ReachedIn, DeliveryIn, SlotBySlot}
use Rattle.system.proofs.Projection.{act-says, ever-forth, ever-back, times-forth, ever-says, never-times}
use Rattle.system.proofs.CallInSlot.{act_in}
use Rattle.system.specs.Order.{Orderly, CountsInOrder}
use Rattle.system.proofs.CommonConfig.{quorum_of, InRange, slot_header, slot_bundle, bundle-in-slot}
use Rattle.system.proofs.CallMatchesAct.{MatchesAct}
use Rattle.system.proofs.CallTests.{act_passes, delivers-in, delivers-any, delivers-forth, delivers-back, announces-in, announces-any, announces-forth, announces-back, reaches-forth, sends-forth, sends-back, sends-bundled}
use Rattle.system.proofs.SlotRanges.{delivers-range, announces-range, sends-range}
use Rattle.system.proofs.Simulation.{acts, AllMatched, assumed-orderly, order-matched, lawful-acts}

-- ---- nearly all of the correct nodes, on calls and on values

-- correct_count is the number of correct nodes
correct-count : (s : System) → count (correct s) s.shared.n ≡ correct_count s
unfolding correct_count correct
correct-count s =
    let rest = count-rest s.faulty s.shared.n in
    let fine : count (λ u. ltb u s.shared.n && not (s.faulty u)) s.shared.n ≡ count (λ u. not (s.faulty u)) s.shared.n =
    count_same _ _ s.shared.n (λ u l. ap (λ (b : Bool). b && not (s.faulty u)) (lt-ltb u s.shared.n l)) in
    omega arith

-- the two ways to say that a set has at least c - d correct nodes
module _ (s : System) where
  abbrev NearlyAllActs : NodeSet → Type 0
  NearlyAllActs p = count (correct s) s.shared.n ≤ s.shared.d + count (both (correct s) p) s.shared.n

  nearly-all-acts : (p : NodeSet) → NearlyAll s p → NearlyAllActs p
  nearly-all-acts p h = omega (arith, correct-count s)

  nearly-all-calls : (p : NodeSet) → NearlyAllActs p → NearlyAll s p
  nearly-all-calls p h = omega (arith, correct-count s)

  -- a set that has every correct node of another has nearly all if the other has
  wider-nearly-all : (p q : NodeSet) → ((u : ℕ) → correct s u ≡ true → p u ≡ true → q u ≡ true) → NearlyAll s p → NearlyAll s q
  wider-nearly-all p q h nearly =
      let wider =
      count-mono (both (correct s) p) (both (correct s) q) s.shared.n
      (λ u l x. let b = (and-eq-true_iff (correct s u) (p u)).0 x in (and-eq-true_iff (correct s u) (q u)).1 (b.0, h u b.0 b.1)) in
      omega arith

-- ---- slots out of range

module _ (s : System) (list : Trace Call) (u : ℕ) (slot : Slot) where
  -- a slot in which something is delivered or announced is in range, and it is announced by its sender
  pub delivered-range : (payload : List ℕ) → ever s (delivers s slot payload) list u ≡ true → InRange s slot
  delivered-range payload =
      ever-says s.buffers (records_after s) (delivers s slot payload) u
      (λ call records e. delivers-range s u slot call records (delivers-in s slot payload u call records e)) list

  announced-range : (payload : List ℕ) → ever s (announces s slot payload) list u ≡ true → InRange s slot × (u ≡ slot.sender)
  announced-range payload =
      ever-says s.buffers (records_after s) (announces s slot payload) u
      (λ call records e. announces-range s u slot call records (announces-in s slot payload u call records e)) list

  acted-range : (payload : List ℕ) → (ever s (announces s slot payload) list u ≡ true) ⊎ (ever s (delivers s slot payload) list u ≡ true) → InRange s slot
  acted-range payload (inl x) = (announced-range payload x).0
  acted-range payload (inr x) = delivered-range payload x

  -- a bound on the number of calls that pass a test has to be shown for slots in range only, if such a call is always in one
  bounded : (callTest : (node : ℕ) (call : Call) (records : List ℕ) → Bool) (k : ℕ) → ((call : Call) (records : List ℕ) → callTest u call records ≡ true → InRange s slot)
      → (InRange s slot → times s callTest list u ≤ k) → times s callTest list u ≤ k
  bounded callTest k says below = go (ever s callTest list u) refl
    where
      go : (b : Bool) → ever s callTest list u ≡ b → times s callTest list u ≤ k
      go true e = below (ever-says s.buffers (records_after s) callTest u says list e)
      go false e = rw (never-times s.buffers (records_after s) callTest u list e) zero-le

-- ---- one slot in range

module _ (s : System) (list : Trace Call) (orderly : Orderly s list) (slot : Slot) (range : InRange s slot) where
  -- the quorum, the acts in the slot, and that each call matches its act
  abbrev pub q : ℕ
  q = quorum_of s

  abbrev pub slot_acts : Trace Act
  slot_acts = acts s slot list

  matched : AllMatched s slot list
  matched = order-matched s slot range orderly.configured orderly.dated list orderly.ordered

  -- where a call passes a test, the act that it matches passes another; and the other way
  abbrev ActFollows : (callTest : (node : ℕ) (call : Call) (records : List ℕ) → Bool) (actTest : (node : ℕ) (act : Act) (r : Record) → Bool) (node : ℕ) → Type 0
  ActFollows callTest actTest u =
      (call : Call) (records : List ℕ) (r : Record) (m : Option Act) → MatchesAct s slot u call records r m
      → callTest u call records ≡ true → act_passes s slot actTest u m r ≡ true

  abbrev CallFollows : (callTest : (node : ℕ) (call : Call) (records : List ℕ) → Bool) (actTest : (node : ℕ) (act : Act) (r : Record) → Bool) (node : ℕ) → Type 0
  CallFollows callTest actTest u =
      (call : Call) (records : List ℕ) (r : Record) (m : Option Act) → MatchesAct s slot u call records r m
      → act_passes s slot actTest u m r ≡ true → callTest u call records ≡ true

  -- then the same holds of the whole list, and no more calls pass than acts
  pub ever-on-acts : (callTest : (node : ℕ) (call : Call) (records : List ℕ) → Bool) (actTest : (node : ℕ) (act : Act) (r : Record) → Bool) (u : ℕ)
      → ActFollows callTest actTest u
      → ever s callTest list u ≡ true → one-slot.ever q actTest slot_acts u ≡ true
  ever-on-acts callTest actTest u h =
      ever-forth s.buffers (records_after s) (λ node. Empty) (one-slot.record_after q) (act_in s slot) (MatchesAct s slot) actTest u callTest h list matched

  pub ever-on-calls : (callTest : (node : ℕ) (call : Call) (records : List ℕ) → Bool) (actTest : (node : ℕ) (act : Act) (r : Record) → Bool) (u : ℕ)
      → CallFollows callTest actTest u
      → one-slot.ever q actTest slot_acts u ≡ true → ever s callTest list u ≡ true
  ever-on-calls callTest actTest u h =
      ever-back s.buffers (records_after s) (λ node. Empty) (one-slot.record_after q) (act_in s slot) (MatchesAct s slot) actTest u callTest h list matched

  times-on-acts : (callTest : (node : ℕ) (call : Call) (records : List ℕ) → Bool) (actTest : (node : ℕ) (act : Act) (r : Record) → Bool) (u : ℕ)
      → ActFollows callTest actTest u
      → times s callTest list u ≤ one-slot.times q actTest slot_acts u
  times-on-acts callTest actTest u h =
      times-forth s.buffers (records_after s) (λ node. Empty) (one-slot.record_after q) (act_in s slot) (MatchesAct s slot) actTest u callTest h list matched

  -- delivering and announcing on the list are delivering and announcing on values
  pub delivered-forth : (payload : List ℕ) (u : ℕ) → ever s (delivers s slot payload) list u ≡ true → one-slot.ever q (one-slot.delivers_this q payload) slot_acts u ≡ true
  delivered-forth payload u =
      ever-on-acts (delivers s slot payload) (one-slot.delivers_this q payload) u (λ call records r. delivers-forth s slot u call records r payload)

  pub delivered-back : (payload : List ℕ) (u : ℕ) → one-slot.ever q (one-slot.delivers_this q payload) slot_acts u ≡ true → ever s (delivers s slot payload) list u ≡ true
  delivered-back payload u =
      ever-on-calls (delivers s slot payload) (one-slot.delivers_this q payload) u (λ call records r. delivers-back s slot u call records r payload)

  -- so are the counts, which on values hold of every trace
  delivers-once-in : (u : ℕ) → times s (delivers_in s slot) list u ≤ 1
  delivers-once-in u = le_trans (times-on-acts (delivers_in s slot) (one-slot.delivers q) u (λ call records r. delivers-any s slot u call records r)) (delivers_once q slot_acts u)

  announces-once-in : (u : ℕ) → times s (announces_in s slot) list u ≤ 1
  announces-once-in u = le_trans (times-on-acts (announces_in s slot) (one-slot.broadcasts q) u (λ call records r. announces-any s slot u call records r)) (broadcasts_once q slot_acts u)

  sends-at-most-twice-in : (u : ℕ) → times s (sends_in s slot) list u ≤ 2
  sends-at-most-twice-in u = le_trans (times-on-acts (sends_in s slot) (one-slot.sends q) u (λ call records r. sends-forth s slot u call records r)) (sends_at_most_twice q slot_acts u)

  -- what the theorem on values says of the slot
  module _ (theorem : OneSlotHolds) (assumed : Assumed s list) where
    -- the configuration's quorum is what the argument asks for
    quorum-fits : Quorum s.shared.n s.shared.t s.shared.d q
    unfolding config_at with_own
    quorum-fits =
        record {
          fits = (good-says (config_at s 0) assumed.configured).most;
          intersects = quorum-intersects (config_at s 0) assumed.configured;
          reachable = quorum-reachable (config_at s 0) assumed.configured;
        }

    concluded-here : one-slot.Concluded s.shared.n q slot.sender s.faulty s.shared.d slot_acts
    concluded-here =
        theorem s.shared.n s.shared.t s.shared.d q slot.sender s.faulty slot_acts
        (record {
          quorum = quorum-fits;
          few = assumed.few;
          lawful = lawful-acts s slot range assumed.configured assumed.dated list assumed.lawful;
        })

    announced-forth : (payload : List ℕ) (u : ℕ) → ever s (announces s slot payload) list u ≡ true
        → one-slot.ever q (one-slot.broadcasts_this q payload) slot_acts u ≡ true
    announced-forth payload u =
        ever-on-acts (announces s slot payload) (one-slot.broadcasts_this q payload) u (λ call records r. announces-forth s slot u call records r payload)

    agreement-in : (u v : ℕ) (first second : List ℕ) → correct s u ≡ true → correct s v ≡ true
        → ever s (delivers s slot first) list u ≡ true → ever s (delivers s slot second) list v ≡ true → first ≡ second
    unfolding correct
    agreement-in u v first second hu hv e f = concluded-here.agreement u v first second hu hv (delivered-forth first u e) (delivered-forth second v f)

    validity-in : (u : ℕ) (payload : List ℕ) → correct s u ≡ true → correct s slot.sender ≡ true → ever s (delivers s slot payload) list u ≡ true
        → ever s (announces s slot payload) list slot.sender ≡ true
    unfolding correct
    validity-in u payload hu hs e =
        ever-on-calls (announces s slot payload) (one-slot.broadcasts_this q payload) slot.sender (λ call records r. announces-back s slot slot.sender call records r payload)
        (concluded-here.validity u payload hu hs (delivered-forth payload u e))

    -- a bundle that was sent on values was sent by its bytes, and by its bytes it reached whom it reached on values
    reached-in : ReachedIn s list slot → one-slot.Reached s.shared.n q slot.sender s.faulty s.shared.d slot_acts
    unfolding correct
    reached-in reached u signers payload hu e =
        let b : Bundled s.shared.n slot.sender signers payload =
        act-says s.buffers (records_after s) (λ node. Empty) (one-slot.record_after q) (act_in s slot) (MatchesAct s slot) (one-slot.sends_this q signers payload) u
        (λ call records r m. sends-bundled s slot u call records r signers payload m) list matched e in
        nearly-all-acts s (one-slot.ever q (one-slot.receives q signers payload) slot_acts)
        (wider-nearly-all s (ever s (reaches s (slot_bundle slot signers payload)) list) (one-slot.ever q (one-slot.receives q signers payload) slot_acts)
        (λ v hv. ever-on-acts (reaches s (slot_bundle slot signers payload)) (one-slot.receives q signers payload) v
        (λ call records r. reaches-forth s slot v call records r signers payload b))
        (reached u (slot_bundle slot signers payload) hu named
        (ever-on-calls (sends_this s (slot_bundle slot signers payload)) (one-slot.sends_this q signers payload) u
        (λ call records r. sends-back s slot u call records r signers payload) e)))
      where
        named : in_slot slot (slot_bundle slot signers payload) ≡ true
        named =
            bundle-in-slot slot (slot_header slot signers) payload (subst (λ (d : ℕ). d < 2 ^ 32) (sym range.today) assumed.dated) ∙ same-slot-self slot

    delivery-in : ReachedIn s list slot → DeliveryIn s list slot
    unfolding correct
    delivery-in reached u payload hu why =
        wider-nearly-all s (one-slot.ever q (one-slot.delivers_this q payload) slot_acts) (ever s (delivers s slot payload) list) (λ v hv. delivered-back payload v)
        (nearly-all-calls s (one-slot.ever q (one-slot.delivers_this q payload) slot_acts) (concluded-here.delivery (reached-in reached) u payload hu (on_values why)))
      where
        on_values : (ever s (announces s slot payload) list u ≡ true) ⊎ (ever s (delivers s slot payload) list u ≡ true)
            → ((u ≡ slot.sender) × (one-slot.ever q (one-slot.broadcasts_this q payload) slot_acts u ≡ true)) ⊎ (one-slot.ever q (one-slot.delivers_this q payload) slot_acts u ≡ true)
        on_values (inl x) = inl ((announced-range s list u slot payload x).1, announced-forth payload u x)
        on_values (inr x) = inr (delivered-forth payload u x)

-- ---- every slot

pub counts-in-order : CountsInOrder
counts-in-order s list orderly u slot = (
  bounded s list u slot (delivers_in s slot) 1 (delivers-range s u slot) (λ range. delivers-once-in s list orderly slot range u),
  bounded s list u slot (announces_in s slot) 1 (λ call records e. (announces-range s u slot call records e).0) (λ range. announces-once-in s list orderly slot range u),
  bounded s list u slot (sends_in s slot) 2 (sends-range s u slot orderly.dated) (λ range. sends-at-most-twice-in s list orderly slot range u),
)

-- Demand 3 slot by slot holds if the theorem on values does,
slot-by-slot-from : OneSlotHolds → SlotBySlot
slot-by-slot-from theorem s list assumed =
    let orderly = assumed-orderly s list assumed in
    record {
      agreement = λ u v slot first second hu hv e f.
          agreement-in s list orderly slot (delivered-range s list u slot first e) theorem assumed u v first second hu hv e f;
      delivers_once = λ u slot hu. (counts-in-order s list orderly u slot).0;
      validity = λ u slot payload hu hs e.
          validity-in s list orderly slot (delivered-range s list u slot payload e) theorem assumed u payload hu hs e;
      announces_once = λ u slot hu. (counts-in-order s list orderly u slot).1;
      sends_at_most_twice = λ u slot hu. (counts-in-order s list orderly u slot).2;
      delivery = λ slot reached u payload hu why.
          delivery-in s list orderly slot (acted-range s list u slot payload why) theorem assumed reached u payload hu why;
    }

pub slot-by-slot : SlotBySlot
slot-by-slot = slot-by-slot-from one-slot-holds

-- and demand 3 follows: where every bundle has reached nearly all, those of each slot have
pub demand3-from : SlotBySlot → Demand3
demand3-from theorem s list assumed =
    let concluded = theorem s list assumed in
    record {
      agreement = concluded.agreement;
      delivers_once = concluded.delivers_once;
      validity = concluded.validity;
      announces_once = concluded.announces_once;
      sends_at_most_twice = concluded.sends_at_most_twice;
      delivery = λ reached u slot payload. concluded.delivery slot (λ v bundle hv here. reached v bundle hv) u payload;
    }

-- Demand 3.
pub demand3 : Demand3
demand3 = demand3-from slot-by-slot
