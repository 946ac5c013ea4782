-- What a node comes to after a list of calls in order: it is refused by too few setpoints alone, and what it pools decides the rest, so that correct nodes that
-- delivered in the same slots come to the same. `RefusedByTooFewAlone` and `SameDeliveriesSameOutcome` of specs/Announced.antt. All records are well-formed, and
-- the buffer has its length. From system's proofs/OrderlyRefusals.antt and proofs/Shown.antt, and pool's proofs/Pool.antt.
-- Assumes nothing.
use mathlib.Core.Path.{◌≡◌, refl, sym, ap, ◌∙◌}
use mathlib.Core.Bool.{Bool, true, false, cond, true≢false}
use mathlib.Core.List.{List}
use Prim.Native.Nat.{ℕ, ◌+◌, ◌*◌, ◌<◌}
use native.Mathlib.Omega.{arith}
use lib.Dec.{ltb}
use lib.IntN.{ℤ}
use lib.ListN.{length}
use borrow.Author.Tests.{ltb-true, ltb-false}
use Rattle.refusal.specs.Outcome.{Outcome, refused, done, after}
use Rattle.refusal.proofs.Reasons.{refused-not-done}
use Rattle.config.specs.declared.Slot.{Slot}
use Rattle.config.specs.Config.{with_own, good, slot_of_day}
use Rattle.protocol.specs.Trace.{Trace}
use Rattle.calls.proofs.NoEffect.{refused-showing-gives-nothing}
use Rattle.system.specs.Demand3.{Call, System, config_at, correct, delivers_in, buffer, ever, called, Assumed}
use Rattle.system.specs.Order.{Orderly}
use Rattle.system.specs.Shown.{shown_place, shown_payload}
use Rattle.system.proofs.CommonConfig.{config-good}
use Rattle.system.proofs.Simulation.{correct-below, assumed-orderly}
use Rattle.system.proofs.OrderlyRefusals.{records-well-formed}
use Rattle.system.proofs.Shown.{shown-answered, shown-agrees}
use Rattle.setpoint.specs.Setpoint.{setpoint_in}
use Rattle.middle.specs.Middle.{lower_middle}
use Rattle.pool.specs.Pool.{delivered_setpoint, pool}
use Rattle.pool.proofs.Pool.{setpoint-few, setpoint-done}
use Rattle.pool_trace.specs.Announced.{setpoint_at, RefusedByTooFewAlone, SameDeliveriesSameOutcome}
use Rattle.pool_trace.proofs.SamePool.{pool-same}

-- ---- what a pool comes to, where nothing else is in the way

-- the lower middle of enough values, and 27 for too few
unfoldable comes-to : (t : ℕ) → List ℤ → Outcome ℤ
comes-to t values = cond (ltb (length values) (2 * t + 1)) (refused 27) (done (lower_middle values))

module _ (s : System) (list : Trace Call) (orderly : Orderly s list) (u : ℕ) (known : u < s.shared.n) (here : called s list u ≡ true) where
  good-here : good (config_at s u) ≡ true
  good-here = config-good s u orderly.configured known

  -- all records are well-formed, and the buffer has its length, so the pool decides
  comes : setpoint_at s list u ≡ comes-to s.shared.t (pool (config_at s u) (buffer s list u))
  unfolding comes-to config_at with_own
  comes = go (ltb (length (pool (config_at s u) (buffer s list u))) (2 * s.shared.t + 1)) refl
    where
      go : (m : Bool) → ltb (length (pool (config_at s u) (buffer s list u))) (2 * s.shared.t + 1) ≡ m
          → setpoint_at s list u ≡ cond m (refused 27) (done (lower_middle (pool (config_at s u) (buffer s list u))))
      go true e =
          let stays = records-well-formed s list orderly u known here in
          let few = ltb-true (length (pool (config_at s u) (buffer s list u))) (2 * s.shared.t + 1) e in
          setpoint-few (config_at s u) (buffer s list u) good-here stays.0 stays.1 (omega arith)
      go false e =
          let stays = records-well-formed s list orderly u known here in
          let enough = ltb-false (length (pool (config_at s u) (buffer s list u))) (2 * s.shared.t + 1) e in
          setpoint-done (config_at s u) (buffer s list u) good-here stays.0 stays.1 (omega arith)

pub refused-by-too-few-alone : RefusedByTooFewAlone
unfolding comes-to
refused-by-too-few-alone s list orderly u number known here is =
    go (ltb (length (pool (config_at s u) (buffer s list u))) (2 * s.shared.t + 1)) (sym (comes s list orderly u known here) ∙ is)
  where
    go : (m : Bool) → cond m (refused 27) (done (lower_middle (pool (config_at s u) (buffer s list u)))) ≡ refused number → number ≡ 27
    go true e = cc
    go false e = absurd (refused-not-done number _ (sym e))

-- ---- two nodes

module _ (s : System) (list : Trace Call) (assumed : Assumed s list) (u v : ℕ) (fu : correct s u ≡ true) (fv : correct s v ≡ true) (cu : called s list u ≡ true) (cv : called s list v ≡ true) where
  -- slots that both have delivered, or neither, are shown alike
  shown-same : (sender seq : ℕ)
      → ever s (delivers_in s (slot_of_day s.shared sender seq)) list u ≡ ever s (delivers_in s (slot_of_day s.shared sender seq)) list v
      → shown_payload s list u (slot_of_day s.shared sender seq) ≡ shown_payload s list v (slot_of_day s.shared sender seq)
  unfolding slot_of_day
  shown-same sender seq alike =
      let orderly = assumed-orderly s list assumed in
      go (shown_place s list u slot) refl (shown_place s list v slot) refl
      (shown-answered s list orderly u slot refl (correct-below s u fu) cu ∙ (alike ∙ sym (shown-answered s list orderly v slot refl (correct-below s v fv) cv)))
    where
      slot : Slot
      slot = slot_of_day s.shared sender seq

      go : (a : Outcome ℕ) → shown_place s list u slot ≡ a → (b : Outcome ℕ) → shown_place s list v slot ≡ b → after a (λ place. true) false ≡ after b (λ place. true) false
          → shown_payload s list u slot ≡ shown_payload s list v slot
      go (done here) e (done there) f both = shown-agrees s list assumed u v sender seq here there fu fv cu cv e f
      go (done here) e (refused number) f both = absurd (true≢false both)
      go (refused number) e (done there) f both = absurd (true≢false (sym both))
      go (refused number) e (refused other) f both =
          (refused-showing-gives-nothing (config_at s u) slot (buffer s list u) number e).0 ∙ sym (refused-showing-gives-nothing (config_at s v) slot (buffer s list v) other f).0

pub same-deliveries-same-outcome : SameDeliveriesSameOutcome
unfolding delivered_setpoint config_at with_own slot_of_day
same-deliveries-same-outcome s list assumed u v fu fv cu cv alike =
    let orderly = assumed-orderly s list assumed in
    comes s list orderly u (correct-below s u fu) cu
    ∙ (ap (comes-to s.shared.t)
    (pool-same (config_at s u) (config_at s v) (buffer s list u) (buffer s list v) refl
    (λ sender seq below k. ap setpoint_in (shown-same s list assumed u v fu fv cu cv sender seq (alike sender seq below k))))
    ∙ sym (comes s list orderly v (correct-below s v fv) cv))
