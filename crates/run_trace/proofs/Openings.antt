-- After the openings of a run every buffer is all zero, whatever it held before; and a step leaves the records that its call leaves.
-- Assumes nothing.
use mathlib.Core.Path.{◌≡◌, refl, ◌∙◌}
use mathlib.Core.Bool.{Bool, true, false, cond}
use mathlib.Core.List.{List}
use Prim.Native.Nat.{ℕ, zero, suc, ◌≤◌, ◌<◌}
use native.Mathlib.Omega.{arith}
use lib.Arith.{lt_of_le-ne}
use lib.Dec.{eqb}
use lib.ListN.{length, replicate}
use borrow.Author.Tests.{eqb-false}
use Rattle.config.specs.declared.Config.{Config}
use Rattle.config.specs.Config.{good, records_size, with_own, slot_of_day}
use Rattle.config.proofs.Laws.{good-at-node}
use Rattle.protocol.specs.Trace.{state}
use Rattle.system.specs.Demand3.{Open, System, records_after, buffer, config_at}
use Rattle.system.proofs.Buffers.{buffer-length, open-zeros}
use Rattle.row.specs.declared.Step.{Step}
use Rattle.row.specs.declared.Step.TheVariants.{Broadcast, Receive}
use Rattle.step.specs.Step.{call_of, records_by}
use Rattle.run_trace.specs.RunTrace.{system_of, openings}
use Rattle.run_trace.specs.Calls.{Sized}

-- a node's config in the run and in the system
pub config-at : (w : Config) (u : ℕ) → config_at (system_of w) u ≡ with_own w u
unfolding config_at with_own system_of
config-at w u = refl

-- a step leaves the records that its call leaves
pub step-leaves : (s : System) (u : ℕ) (step : Step) (records : List ℕ)
    → records_by (with_own s.shared u) step records ≡ records_after s u (call_of s.shared step) records
unfolding records_by records_after call_of with_own config_at slot_of_day
step-leaves s u (Broadcast p) records = refl
step-leaves s u (Receive from nth signers p) records = refl

-- opening gives zeros at each node
pub open-zeroed : (s : System) → good s.shared ≡ true → (u : ℕ) → u < s.shared.n → (records : List ℕ) → length records ≡ records_size s.shared
    → records_after s u Open records ≡ replicate (records_size s.shared) 0
unfolding records_after config_at with_own records_size
open-zeroed s g u known records size = open-zeros (config_at s u) records (good-at-node s.shared u g known) size

-- after the openings every buffer is all zero, whatever it held before
pub opened-buffer : (s : System) → good s.shared ≡ true → Sized s
    → (k u : ℕ) → u < k → k ≤ s.shared.n → buffer s (openings s.shared k) u ≡ replicate (records_size s.shared) 0
unfolding openings state
opened-buffer s g right zero u below most = absurd (omega arith)
opened-buffer s g right (suc k) u below most = go (eqb u k) refl (opened-buffer s g right k u)
  where
    go : (b : Bool) → eqb u k ≡ b → (u < k → k ≤ s.shared.n → buffer s (openings s.shared k) u ≡ replicate (records_size s.shared) 0)
        → cond b (records_after s u Open (buffer s (openings s.shared k) u)) (buffer s (openings s.shared k) u)
        ≡ replicate (records_size s.shared) 0
    go true e earlier = open-zeroed s g u (omega arith) (buffer s (openings s.shared k) u) (buffer-length s (openings s.shared k) u ∙ right u (omega arith))
    go false e earlier = let other = eqb-false u k e in earlier (lt_of_le-ne (omega arith) other) (omega arith)
