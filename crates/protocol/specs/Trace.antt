-- Calls at nodes, in the order of time, and what is counted over them. Each node has a state of its own, and a call finds the state that the
-- last call at the same node left (R14.5).
-- Assumes nothing.
use Rattle.std.specs.Prelude.{Bool, true, false, cond, ◌&&◌, ◌||◌, ℕ, zero, suc, ◌+◌, eqb}
use Rattle.signers.specs.Sets.{indicator}

-- R14.3: a list of calls, of any length. In `earlier then node calls call` the last call is `call`, at `node`.
infixl 10 ◌then◌calls◌
pub data Trace (Call : Type 0) : Type 0 where
  start : Trace Call
  ◌then◌calls◌ : (earlier : Trace Call) (node : ℕ) (call : Call) → Trace Call

-- The test passes for each number 0 to n - 1, of nodes for the most part.
unfoldable pub each : (test : (node : ℕ) → Bool) (n : ℕ) → Bool
each test zero = true
each test (suc n) = test n && each test n

-- `initial` is the state of each node before its first call, and `next node call state` the state that a call at the node leaves.
module _ {Call State : Type 0} (initial : (node : ℕ) → State) (next : (node : ℕ) (call : Call) (found : State) → State) where
  -- the state of a node after the calls
  unfoldable pub state : (list : Trace Call) (node : ℕ) → State
  state start node = initial node
  state (earlier then v calls call) node = cond (eqb node v) (next node call (state earlier node)) (state earlier node)

  -- A test is asked of a node, a call there, and the state that the call found.
  module _ (test : (node : ℕ) (call : Call) (found : State) → Bool) where
    -- some call at the node passes the test
    unfoldable pub ever : (list : Trace Call) (node : ℕ) → Bool
    ever start node = false
    ever (earlier then v calls call) node = (eqb node v && test node call (state earlier node)) || ever earlier node

    -- how many calls at the node pass it
    unfoldable pub times : (list : Trace Call) (node : ℕ) → ℕ
    times start node = 0
    times (earlier then v calls call) node = indicator (eqb node v && test node call (state earlier node)) + times earlier node
