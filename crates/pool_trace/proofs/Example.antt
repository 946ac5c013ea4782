-- What specs/Example.antt claims: what is computed over the two lists, and that what is announced on a list is among the payloads broadcast there.
-- Assumes nothing.
use mathlib.Core.Path.{◌≡◌, refl, sym, ap, ◌∙◌}
use mathlib.Core.Bool.{Bool, true, false, ◌&&◌, ◌||◌, and-eq-true_iff, true≢false}
use mathlib.Core.List.{List, [], ◌∷◌}
use Prim.Native.Nat.{ℕ, zero, suc, ◌<◌}
use native.Mathlib.Omega.{arith}
use lib.Dec.{eqb, lit<, lit≤}
use lib.IntN.{ℤ, pos}
use lib.ListN.{get_or}
use Rattle.octets.specs.Octets.{same}
use Rattle.octets.proofs.Same.{same-says}
use Rattle.signers.specs.Sets.{count}
use Rattle.refusal.specs.Outcome.{done}
use Rattle.config.specs.declared.Slot.{Slot}
use Rattle.protocol.specs.Trace as trace
use Rattle.protocol.specs.Trace.{Trace, start, ◌then◌calls◌, each}
use Rattle.calls.specs.Showing.{delivered_reasons, delivered, delivered_part}
use Rattle.calls.specs.WellFormed.{slot_well_formed, sender_well_formed, all_well_formed}
use Rattle.system.specs.Demand3.{Call, Open, Broadcast, Receive, System, in_slot, correct, opens, announces_in, announces, sends, sends_in, signs, buffer, ever, Assumed}
use Rattle.system.proofs.Computing.{calls-compute}
use Rattle.system.proofs.ComputedTests.{given-before, unforged-now, unforged-test, lawful-test, lawful-says}
use Rattle.signed.specs.Signed.{signed}
use Rattle.setpoint.specs.Setpoint.{is_setpoint, hundredths, setpoint_in}
use Rattle.middle.specs.Middle.{insert, sorted, lower_middle}
use Rattle.pool.specs.Pool.{delivered_setpoint, delivered_setpoints, latest, pooled, pool, setpoint_reasons, setpoint}
use Rattle.pool_trace.specs.Announced.{AnnouncedSetpoint, setpoint_at}
use Rattle.pool_trace.specs.Example.{four_nodes, four, saying, first, second, third, swapped, announcing, gets, one_faulty, two_pooled, list, middle, SwappedSensorsList, two_faulty, overrun, DraggedByTwo}

-- one name for all that the lists are written with, and one for all that is unfolded to compute what is pooled
unfoldable lists-compute : Unit {0}
unfolding four_nodes four saying first second third swapped announcing gets one_faulty two_pooled list middle two_faulty overrun calls-compute
lists-compute = tt

unfoldable pools-compute : Unit {0}
unfolding delivered_reasons delivered delivered_part signed is_setpoint hundredths setpoint_in insert sorted lower_middle each delivered_setpoint delivered_setpoints latest pooled pool
    slot_well_formed sender_well_formed all_well_formed setpoint_reasons setpoint
pools-compute = tt

lawful : (lawful-test one_faulty list ≡ true) × (lawful-test two_faulty overrun ≡ true)
unfolding lists-compute in_slot correct opens sends sends_in signs each trace.ever given-before unforged-now unforged-test lawful-test
lawful = (refl, refl)

assumed : Assumed one_faulty list
unfolding lists-compute count
assumed = record { configured = refl; dated = lit< tt; few = lit≤ tt; lawful = lawful-says one_faulty list lawful.0 }

-- ---- one faulty node

everywhere : (u : ℕ) → u < 3 → setpoint_at one_faulty list u ≡ done middle
unfolding lists-compute pools-compute
everywhere zero h = refl
everywhere (suc zero) h = refl
everywhere (suc (suc zero)) h = refl
everywhere (suc (suc (suc u))) h = absurd (omega arith)

pub swapped-sensors-list : SwappedSensorsList
unfolding lists-compute pools-compute
swapped-sensors-list = (assumed, refl, refl, everywhere)

-- ---- two faulty nodes

-- every payload that is broadcast passes a test
unfoldable payload-test : (test : List ℕ → Bool) (call : Call) → Bool
payload-test test Open = true
payload-test test (Broadcast given out) = test given
payload-test test (Receive bundle out) = true

unfoldable broadcast-test : (test : List ℕ → Bool) (list : Trace Call) → Bool
broadcast-test test start = true
broadcast-test test (earlier then u calls call) = payload-test test call && broadcast-test test earlier

module _ (s : System) (slot : Slot) (payload : List ℕ) (test : List ℕ → Bool) where
  -- then so does every one that is announced
  announces-passed : (u : ℕ) (call : Call) (records : List ℕ) → announces s slot payload u call records ≡ true → payload-test test call ≡ true → test payload ≡ true
  unfolding announces payload-test
  announces-passed u Open records e passes = absurd (true≢false (sym e))
  announces-passed u (Broadcast given out) records e passes =
      let this = same-says given payload ((and-eq-true_iff (announces_in s slot u (Broadcast given out) records) _).0 e).1 in
      sym (ap test this) ∙ passes
  announces-passed u (Receive bundle out) records e passes = absurd (true≢false (sym e))

  announced-passes : (list : Trace Call) (u : ℕ) → broadcast-test test list ≡ true → ever s (announces s slot payload) list u ≡ true → test payload ≡ true
  unfolding broadcast-test trace.ever
  announced-passes start u passes e = absurd (true≢false (sym e))
  announced-passes (earlier then v calls call) u passes e =
      let (now, before) = (and-eq-true_iff (payload-test test call) _).0 passes in
      go (eqb u v && announces s slot payload u call (buffer s earlier u)) refl e now (announced-passes earlier u before)
    where
      go : (m : Bool) → (eqb u v && announces s slot payload u call (buffer s earlier u)) ≡ m → (m || ever s (announces s slot payload) earlier u) ≡ true
          → payload-test test call ≡ true → (ever s (announces s slot payload) earlier u ≡ true → test payload ≡ true) → test payload ≡ true
      go true h e now rest = announces-passed u call (buffer s earlier u) ((and-eq-true_iff (eqb u v) _).0 h).1 now
      go false h e now rest = rest e

-- one payload is broadcast
one-broadcast : broadcast-test (λ given. same given first) overrun ≡ true
unfolding lists-compute payload-test broadcast-test
one-broadcast = refl

first_says : setpoint_in first ≡ pos 2150 ∷ []
unfolding lists-compute pools-compute
first_says = refl

one-announced : (sender : ℕ) (value : ℤ) → AnnouncedSetpoint two_faulty overrun sender value → value ≡ pos 2150
one-announced sender value announced =
    let is = same-says _ _ (announced-passes two_faulty _ announced.payload (λ given. same given first) overrun sender one-broadcast announced.announced) in
    ap (λ (xs : List ℤ). get_or xs 0 (pos 0)) (sym announced.says ∙ (ap setpoint_in is ∙ first_says))

pub dragged-by-two : DraggedByTwo
unfolding lists-compute pools-compute count
dragged-by-two = (lawful-says two_faulty overrun lawful.1, refl, refl, one-announced)
