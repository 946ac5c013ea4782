-- What a correct node pools of a correct sender was announced by it, and the outcome lies between two setpoints so announced: `PooledWasAnnounced` and
-- `OutcomeBetweenAnnounced` of specs/Announced.antt. What is pooled is shown, what is shown was delivered, and what is delivered in a correct sender's slot was
-- announced there; at most t of those pooled are faulty, since at most t nodes are. From system's proofs/Shown.antt and proofs/Demand3.antt, and pool's
-- proofs/Between.antt.
-- Assumes nothing.
use mathlib.Core.Path.{◌≡◌, refl, sym, ap, ◌∙◌}
use mathlib.Core.Bool.{Bool, true, false, and-eq-true_iff}
use mathlib.Core.List.{[], ◌∷◌}
use Prim.Native.Nat.{ℕ, ◌≤◌, ◌<◌}
use native.Mathlib.Omega.{arith}
use lib.IntN.{ℤ}
use lib.ListN.{length}
use borrow.Author.Tests.{lt-ltb}
use Rattle.signers.specs.Sets.{count, both}
use Rattle.signers.proofs.Counting.{count-mono}
use Rattle.refusal.specs.Outcome.{Outcome, refused, done}
use Rattle.config.specs.declared.Slot.{Slot}
use Rattle.config.specs.Config.{with_own, slot_of_day}
use Rattle.protocol.specs.Trace.{Trace}
use Rattle.system.specs.Demand3.{Call, System, config_at, correct, delivers, buffer, ever, called}
use Rattle.system.specs.Order.{Orderly}
use Rattle.system.specs.Shown.{shown_place, shown_payload}
use Rattle.system.proofs.Simulation.{correct-below, assumed-orderly}
use Rattle.system.proofs.Shown.{shown-is-delivered}
use Rattle.system.proofs.Demand3.{demand3}
use Rattle.setpoint.specs.Setpoint.{setpoint_in}
use Rattle.pool.specs.Pool.{delivered_setpoint}
use Rattle.pool.specs.Between.{is_pooled, PooledFrom}
use Rattle.pool.proofs.Between.{outcome-between}
use Rattle.pool_trace.specs.Announced.{AnnouncedSetpoint, PooledWasAnnounced, OutcomeBetweenAnnounced}
use Rattle.calls.proofs.NoEffect.{refused-showing-gives-nothing}
use Rattle.pool.proofs.Pool.{none_said, latest-delivered}

-- a payload that is shown and says a setpoint was delivered
said-delivered : (s : System) (list : Trace Call) → Orderly s list → (u sender seq : ℕ) (value : ℤ) → u < s.shared.n → called s list u ≡ true
    → setpoint_in (shown_payload s list u (slot_of_day s.shared sender seq)) ≡ value ∷ []
    → ever s (delivers s (slot_of_day s.shared sender seq) (shown_payload s list u (slot_of_day s.shared sender seq))) list u ≡ true
said-delivered s list orderly u sender seq value known here says = go (shown_place s list u slot) refl
  where
    slot : Slot
    slot = slot_of_day s.shared sender seq

    go : (o : Outcome ℕ) → shown_place s list u slot ≡ o → ever s (delivers s slot (shown_payload s list u slot)) list u ≡ true
    go (done start) e = (shown-is-delivered s list orderly u sender seq _ known here).0 start e refl
    go (refused number) e =
        let shown = (refused-showing-gives-nothing (config_at s u) slot (buffer s list u) number e).0 in
        absurd (let none : 0 ≡ 1 = ap length (sym none_said ∙ (ap setpoint_in (sym shown) ∙ says)) in omega arith)

pub pooled-was-announced : PooledWasAnnounced
unfolding delivered_setpoint config_at with_own slot_of_day
pooled-was-announced s list assumed u sender value fine here fine-sender is =
    let (seq, below, says) = latest-delivered (config_at s u) (buffer s list u) sender value is in
    let given = said-delivered s list (assumed-orderly s list assumed) u sender seq value (correct-below s u fine) here says in
    record {
      seq = seq;
      payload = shown_payload s list u (slot_of_day s.shared sender seq);
      is_correct = fine-sender;
      below = below;
      says = says;
      announced = (demand3 s list assumed).validity u (slot_of_day s.shared sender seq) _ fine fine-sender given;
    }

-- a node that is not faulty is correct
correct-sender : (s : System) (sender : ℕ) → sender < s.shared.n → s.faulty sender ≡ false → correct s sender ≡ true
unfolding correct
correct-sender s sender below is = rw (lt-ltb sender s.shared.n below, is)

pub outcome-between-announced : OutcomeBetweenAnnounced
unfolding config_at with_own
outcome-between-announced s list assumed u outcome fine here is =
    let between = outcome-between (config_at s u) (buffer s list u) s.faulty outcome few is in
    (found between.0, found between.1)
  where
    few : count (both s.faulty (is_pooled (config_at s u) (buffer s list u))) s.shared.n ≤ s.shared.t
    few =
        let part = count-mono (both s.faulty (is_pooled (config_at s u) (buffer s list u))) s.faulty s.shared.n (λ v below e. ((and-eq-true_iff _ _).0 e).0) in
        let all = assumed.few in
        omega arith

    found : {test : ℤ → Bool} → (value : ℤ) × PooledFrom (config_at s u) (buffer s list u) s.faulty value × (test value ≡ true)
        → (sender : ℕ) × (value : ℤ) × AnnouncedSetpoint s list sender value × (test value ≡ true)
    found (value, pooled, passes) =
        let sender = pooled.sender in
        (sender, value, pooled-was-announced s list assumed u sender value fine here (correct-sender s sender pooled.below pooled.correct) pooled.pooled, passes)
