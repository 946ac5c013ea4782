-- What specs/Tight.antt claims, each by a list of calls that is written out: the tests, and what is delivered, are computed.
-- Assumes nothing.
use mathlib.Core.Path.{◌≡◌, refl, ap}
use mathlib.Core.Bool.{Bool, true, not, ◌&&◌, ◌||◌, beq, and-eq-true_iff, true≢false}
use mathlib.Core.Logic.{inl}
use mathlib.Core.List.{List}
use Prim.Native.Nat.{ℕ, ◌-◌, ◌≤◌}
use native.Mathlib.Omega.{arith}
use lib.Dec.{eqb, leb, lit<, lit≤}
use lib.ListN.{length}
use borrow.Author.Tests.{eqb-true, leb-true, not-true}
use Rattle.octets.specs.Octets.{same}
use Rattle.octets.proofs.ComputedTests.{agree-says}
use Rattle.signers.specs.Sets.{count, both}
use Rattle.config.specs.Config.{slot_of_day, records_size}
use Rattle.protocol.specs.Trace as trace
use Rattle.protocol.specs.Trace.{Trace, start, ◌then◌calls◌, each}
use Rattle.protocol.proofs.ComputedTests.{implies, implies-says}
use Rattle.system.specs.Demand3.{Call, Open, Broadcast, Receive, System, config_at, in_slot, correct, correct_count, opens, announces_in, announces, delivers_in, delivers, sends, sends_in, signs, reaches, buffer, ever, called, Unforged}
use Rattle.system.specs.Example.{first, second}
use Rattle.system.specs.SlotBySlot.{one_node, alone}
use Rattle.system.specs.Tight.{LawfulBy, RightLength, OpensFirstAndOnce, OpensFirst, OpensOnce, AsksAll, room, receiving, four_nodes, four, two_nodes, pair, two_faulty, both_signed, one_faulty, forged, one_missed, opened_again, left_over, never_opened, no_buffer, both_opened, handed, both_sized, no_room, FaultyTight, ForgedTight, ReachTight, OpenOnceTight, OpenFirstTight, SizedTight, RoomTight}
use Rattle.system.proofs.Computing.{calls-compute}
use Rattle.system.proofs.ComputedTests.{given-before, unforged-now, unforged-now-says, unforged-test, lawful-test, lawful-says, sent-test, sent-says}

-- with each part as `Lawful` asks it, the list is lawful
pub asks-all : AsksAll
asks-all s start lawful = tt
asks-all s (earlier then node calls call) (before, fine, sized, opening, genuine) = (asks-all s earlier before, fine, sized, opening, genuine)

-- ---- what is asked of a call, as tests

module _ (s : System) (Sized : ℕ → Type 0) (Opening : Bool → Bool → Type 0) (Genuine : Trace Call → ℕ → Call → Type 0)
    (sized : ℕ → Bool) (opening : Bool → Bool → Bool) (genuine : Trace Call → ℕ → Call → Bool)
    (sized-says : (u : ℕ) → sized u ≡ true → Sized u) (opening-says : (a b : Bool) → opening a b ≡ true → Opening a b)
    (genuine-says : (earlier : Trace Call) (u : ℕ) (call : Call) → genuine earlier u call ≡ true → Genuine earlier u call) where
  unfoldable by-test : (list : Trace Call) → Bool
  by-test start = true
  by-test (earlier then u calls call) =
      by-test earlier
      && (correct s u && (sized u && (opening (opens s u call (buffer s earlier u)) (called s earlier u) && genuine earlier u call)))

  by-says : (list : Trace Call) → by-test list ≡ true → LawfulBy s Sized Opening Genuine list
  unfolding by-test
  by-says start e = tt
  by-says (earlier then u calls call) e =
      let (before, rest) = (and-eq-true_iff (by-test earlier) _).0 e in
      let (fine, rest') = (and-eq-true_iff (correct s u) _).0 rest in
      let (long, rest'') = (and-eq-true_iff (sized u) _).0 rest' in
      let (opened, made) = (and-eq-true_iff (opening (opens s u call (buffer s earlier u)) (called s earlier u)) _).0 rest'' in
      (by-says earlier before, fine, sized-says u long, opening-says _ _ opened, genuine-says earlier u call made)

module _ (s : System) where
  abbrev right-length : ℕ → Bool
  right-length u = eqb (length (s.buffers u)) (records_size (config_at s u))

  right-length-says : (u : ℕ) → right-length u ≡ true → RightLength s u
  right-length-says u e = eqb-true _ _ e

  unfoldable genuine : (earlier : Trace Call) (node : ℕ) (call : Call) → Bool
  genuine earlier u Open = true
  genuine earlier u (Broadcast given out) = true
  genuine earlier u (Receive bundle out) = unforged-now s earlier u bundle

  genuine-says : (earlier : Trace Call) (u : ℕ) (call : Call) → genuine earlier u call ≡ true → Unforged s earlier u call
  unfolding genuine
  genuine-says earlier u Open e = tt
  genuine-says earlier u (Broadcast given out) e = tt
  genuine-says earlier u (Receive bundle out) e = unforged-now-says s earlier u bundle out e

first_says : (a b : Bool) → (b || a) ≡ true → OpensFirst a b
first_says a b e called = rw called at e

once-says : (a b : Bool) → implies a (not b) ≡ true → OpensOnce a b
once-says a b e opened = not-true b (implies-says a (not b) e opened)

first-and-once-says : (a b : Bool) → beq a (not b) ≡ true → OpensFirstAndOnce a b
first-and-once-says a b e = agree-says a (not b) e

-- ---- faults

faulty-passes : lawful-test two_faulty both_signed ≡ true
unfolding room receiving four_nodes four two_faulty both_signed first second calls-compute in_slot correct opens sends sends_in signs each trace.ever given-before unforged-now unforged-test lawful-test
faulty-passes = refl

pub faulty-tight : FaultyTight
unfolding room receiving four_nodes four two_faulty both_signed first second calls-compute in_slot correct delivers_in delivers count trace.ever
faulty-tight = (
  record { configured = refl; dated = lit< tt; few = refl; lawful = lawful-says two_faulty both_signed faulty-passes },
  λ agreement. true≢false (ap (same first) (agreement 0 1 (slot_of_day four_nodes 3 0) first second refl refl refl refl)),
)

-- ---- signatures

forged-passes : by-test one_faulty (RightLength one_faulty) OpensFirstAndOnce (λ earlier node call. Unit) (right-length one_faulty) (λ a b. beq a (not b)) (λ earlier node call. true)
    (right-length-says one_faulty) first-and-once-says (λ earlier u call e. tt) forged ≡ true
unfolding room receiving four_nodes four one_faulty forged first second calls-compute correct opens trace.ever by-test
forged-passes = refl

pub forged-tight : ForgedTight
unfolding room receiving four_nodes four one_faulty forged first second calls-compute in_slot correct delivers_in delivers count trace.ever
forged-tight = (
  record {
    configured = refl;
    dated = lit< tt;
    few = lit≤ tt;
    lawful =
        by-says one_faulty (RightLength one_faulty) OpensFirstAndOnce (λ earlier node call. Unit) (right-length one_faulty) (λ a b. beq a (not b)) (λ earlier node call. true)
        (right-length-says one_faulty) first-and-once-says (λ earlier u call e. tt) forged forged-passes;
  },
  λ agreement. true≢false (ap (same first) (agreement 0 1 (slot_of_day four_nodes 3 0) first second refl refl refl refl)),
)

-- ---- losses

-- a bundle has reached all correct nodes but d + 1
missed-by-one : (bundle : List ℕ) → Bool
missed-by-one bundle =
    leb (correct_count one_faulty - one_faulty.shared.d - 1) (count (both (correct one_faulty) (ever one_faulty (reaches one_faulty bundle) one_missed)) one_faulty.shared.n)

missed-passes : (lawful-test one_faulty one_missed ≡ true) × (sent-test one_faulty missed-by-one one_missed ≡ true)
unfolding missed-by-one room receiving four_nodes four one_faulty one_missed first calls-compute in_slot correct correct_count opens sends sends_in signs reaches count each trace.ever given-before unforged-now
    unforged-test lawful-test sent-test
missed-passes = (refl, refl)

pub reach-tight : ReachTight
unfolding missed-by-one room receiving four_nodes four one_faulty one_missed first calls-compute in_slot correct correct_count announces_in announces delivers_in delivers count trace.ever
reach-tight = (
  record { configured = refl; dated = lit< tt; few = lit≤ tt; lawful = lawful-says one_faulty one_missed missed-passes.0 },
  λ u bundle fine sent. leb-true _ _ (sent-says one_faulty missed-by-one one_missed u bundle missed-passes.1 sent),
  λ delivery. let none : 3 ≤ 0 = delivery 0 (slot_of_day four_nodes 0 0) first refl (inl refl) in absurd (omega arith),
)

-- ---- openings

again-passes : by-test alone (RightLength alone) OpensFirst (Unforged alone) (right-length alone) (λ a b. b || a) (genuine alone) (right-length-says alone) first_says (genuine-says alone) opened_again ≡ true
unfolding one_node alone room receiving opened_again first second calls-compute in_slot correct opens sends sends_in signs each trace.ever unforged-now genuine by-test
again-passes = refl

pub open-once-tight : OpenOnceTight
unfolding one_node alone room receiving opened_again first second calls-compute in_slot correct delivers_in delivers count trace.ever trace.times
open-once-tight = (
  record {
    configured = refl;
    dated = lit< tt;
    few = lit≤ tt;
    lawful =
        by-says alone (RightLength alone) OpensFirst (Unforged alone) (right-length alone) (λ a b. b || a) (genuine alone) (right-length-says alone) first_says (genuine-says alone)
        opened_again again-passes;
  },
  λ agreement. true≢false (ap (same first) (agreement 0 0 (slot_of_day one_node 0 0) first second refl refl refl refl)),
  λ once. let twice : 2 ≤ 1 = once 0 (slot_of_day one_node 0 0) refl in absurd (omega arith),
)

-- a bundle has reached nearly all, on such a list
module _ (s : System) (list : Trace Call) where
  unfoldable near : (bundle : List ℕ) → Bool
  near bundle = leb (correct_count s - s.shared.d) (count (both (correct s) (ever s (reaches s bundle) list)) s.shared.n)

never-passes : (by-test left_over (RightLength left_over) OpensOnce (Unforged left_over) (right-length left_over) (λ a b. implies a (not b)) (genuine left_over) (right-length-says left_over) once-says
    (genuine-says left_over) never_opened ≡ true)
    × (sent-test left_over (near left_over never_opened) never_opened ≡ true)
unfolding near two_nodes pair left_over first second room receiving never_opened calls-compute in_slot correct correct_count opens sends sends_in signs reaches count each trace.ever unforged-now
    genuine by-test sent-test
never-passes = (refl, refl)

pub open-first-tight : OpenFirstTight
unfolding near two_nodes pair left_over first second room receiving never_opened calls-compute in_slot correct correct_count announces_in announces delivers_in delivers count trace.ever
open-first-tight = (
  record {
    configured = refl;
    dated = lit< tt;
    few = lit≤ tt;
    lawful =
        by-says left_over (RightLength left_over) OpensOnce (Unforged left_over) (right-length left_over) (λ a b. implies a (not b)) (genuine left_over) (right-length-says left_over) once-says
        (genuine-says left_over) never_opened never-passes.0;
  },
  λ u bundle fine sent. leb-true _ _ (sent-says left_over (near left_over never_opened) never_opened u bundle never-passes.1 sent),
  λ delivery. let none : 2 ≤ 0 = delivery 0 (slot_of_day two_nodes 0 0) first refl (inl refl) in absurd (omega arith),
)

-- ---- buffers

sized-passes : (by-test no_buffer (λ node. Unit) OpensFirstAndOnce (Unforged no_buffer) (λ node. true) (λ a b. beq a (not b)) (genuine no_buffer) (λ u e. tt) first-and-once-says
    (genuine-says no_buffer) both_opened ≡ true)
    × (sent-test no_buffer (near no_buffer both_opened) both_opened ≡ true)
unfolding near two_nodes pair no_buffer first room receiving both_opened calls-compute in_slot correct correct_count opens sends sends_in signs reaches count each trace.ever unforged-now genuine by-test
    sent-test
sized-passes = (refl, refl)

pub sized-tight : SizedTight
unfolding near two_nodes pair no_buffer first room receiving both_opened calls-compute in_slot correct correct_count announces_in announces delivers_in delivers count trace.ever
sized-tight = (
  record {
    configured = refl;
    dated = lit< tt;
    few = lit≤ tt;
    lawful =
        by-says no_buffer (λ node. Unit) OpensFirstAndOnce (Unforged no_buffer) (λ node. true) (λ a b. beq a (not b)) (genuine no_buffer) (λ u e. tt) first-and-once-says
        (genuine-says no_buffer) both_opened sized-passes.0;
  },
  λ u bundle fine sent. leb-true _ _ (sent-says no_buffer (near no_buffer both_opened) both_opened u bundle sized-passes.1 sent),
  λ delivery. let none : 2 ≤ 0 = delivery 0 (slot_of_day two_nodes 0 0) first refl (inl refl) in absurd (omega arith),
)

-- ---- outgoing bytes

-- a bundle was handed to nearly all
handed-near : (bundle : List ℕ) → Bool
handed-near bundle =
    leb (correct_count both_sized - both_sized.shared.d) (count (both (correct both_sized) (ever both_sized (handed bundle) no_room)) both_sized.shared.n)

room-passes : (lawful-test both_sized no_room ≡ true) × (sent-test both_sized handed-near no_room ≡ true)
unfolding handed-near handed two_nodes pair both_sized first room receiving no_room calls-compute in_slot correct correct_count opens sends sends_in signs count each trace.ever given-before unforged-now
    unforged-test lawful-test sent-test
room-passes = (refl, refl)

pub room-tight : RoomTight
unfolding handed-near two_nodes pair both_sized first room receiving no_room calls-compute in_slot correct correct_count announces_in announces delivers_in delivers count trace.ever
room-tight = (
  record { configured = refl; dated = lit< tt; few = lit≤ tt; lawful = lawful-says both_sized no_room room-passes.0 },
  λ u bundle fine sent. leb-true _ _ (sent-says both_sized handed-near no_room u bundle room-passes.1 sent),
  λ delivery. let none : 2 ≤ 0 = delivery 0 (slot_of_day two_nodes 0 0) first refl (inl refl) in absurd (omega arith),
)
