-- What one call more at the end of a trace changes: the state of the node that is called, and what its calls have passed; at any other node nothing.
-- From the definitions of specs/Trace.antt, for calls and states of any kind. Assumes nothing.
use mathlib.Core.Path.{◌≡◌, refl}
use mathlib.Core.Bool.{Bool, true, false, ◌&&◌, ◌||◌, false≢true, or-true}
use Prim.Native.Nat.{ℕ, ◌+◌}
use lib.Dec.{eqb}
use borrow.Author.Tests.{eq-eqb}
use Rattle.signers.specs.Sets.{indicator}
use Rattle.protocol.specs.Trace.{Trace, start, ◌then◌calls◌, state, ever, times}

module _ {Call State : Type 0} (initial : ℕ → State) (next : ℕ → Call → State → State) where
  -- the state of the node that is called is what the call leaves,
  pub state-own : (earlier : Trace Call) (u : ℕ) (call : Call)
      → state initial next (earlier then u calls call) u ≡ next u call (state initial next earlier u)
  unfolding state
  state-own earlier u call = rw (eq-eqb u u refl)

  -- and any other node's state is as before
  pub state-other : (earlier : Trace Call) (u v : ℕ) (call : Call) → eqb u v ≡ false
      → state initial next (earlier then v calls call) u ≡ state initial next earlier u
  unfolding state
  state-other earlier u v call e = rw e

  module _ (test : ℕ → Call → State → Bool) where
    -- at the node that is called the test is asked of this call too,
    pub ever-own : (earlier : Trace Call) (u : ℕ) (call : Call)
        → ever initial next test (earlier then u calls call) u ≡ (test u call (state initial next earlier u) || ever initial next test earlier u)
    unfolding ever
    ever-own earlier u call = rw (eq-eqb u u refl)

    pub times-own : (earlier : Trace Call) (u : ℕ) (call : Call)
        → times initial next test (earlier then u calls call) u ≡ indicator (test u call (state initial next earlier u)) + times initial next test earlier u
    unfolding times
    times-own earlier u call = rw (eq-eqb u u refl)

    -- and at any other node it is not
    pub ever-other : (earlier : Trace Call) (u v : ℕ) (call : Call) → eqb u v ≡ false
        → ever initial next test (earlier then v calls call) u ≡ ever initial next test earlier u
    unfolding ever
    ever-other earlier u v call e = rw e

    pub times-other : (earlier : Trace Call) (u v : ℕ) (call : Call) → eqb u v ≡ false
        → times initial next test (earlier then v calls call) u ≡ 0 + times initial next test earlier u
    unfolding times
    times-other earlier u v call e = rw e

    -- a test that has passed once stays passed
    pub ever-grows : (earlier : Trace Call) (u v : ℕ) (call : Call)
        → ever initial next test earlier u ≡ true → ever initial next test (earlier then v calls call) u ≡ true
    unfolding ever
    ever-grows earlier u v call e = rw e (or-true (eqb u v && test u call (state initial next earlier u)))

-- If each call that passes a test passes one of several others, with something known of that one, then so does some call of the trace.
pub ever-finds : {Call State A : Type 0} (initial : ℕ → State) (next : ℕ → Call → State → State)
    (test : ℕ → Call → State → Bool) (tests : A → ℕ → Call → State → Bool) (Good : A → Type 0) (u : ℕ)
    → ((call : Call) (s : State) → test u call s ≡ true → (a : A) × (tests a u call s ≡ true) × Good a)
    → (trace : Trace Call) → ever initial next test trace u ≡ true → (a : A) × (ever initial next (tests a) trace u ≡ true) × Good a
unfolding ever
ever-finds {A = A} initial next test tests Good u each start e = absurd (false≢true e)
ever-finds {A = A} initial next test tests Good u each (earlier then v calls call) e =
    go (ever-finds initial next test tests Good u each earlier) (eqb u v) refl (test u call (state initial next earlier u)) refl e
  where
    go : (ever initial next test earlier u ≡ true → (a : A) × (ever initial next (tests a) earlier u ≡ true) × Good a)
        → (b : Bool) → eqb u v ≡ b → (c : Bool) → test u call (state initial next earlier u) ≡ c
        → ((b && c) || ever initial next test earlier u) ≡ true
        → (a : A) × (ever initial next (tests a) (earlier then v calls call) u ≡ true) × Good a
    go below true b true c h = let r = each call (state initial next earlier u) c in (r.0, rw (b, r.1), r.2)
    go below true b false c h = let r = below h in (r.0, ever-grows initial next (tests r.0) earlier u v call r.1, r.2)
    go below false b c k h = let r = below h in (r.0, ever-grows initial next (tests r.0) earlier u v call r.1, r.2)

-- if each call that passes a test passes another, then so does some call of the trace
pub ever-mono : {Call State : Type 0} (initial : ℕ → State) (next : ℕ → Call → State → State) (test other : ℕ → Call → State → Bool) (u : ℕ)
    → ((call : Call) (s : State) → test u call s ≡ true → other u call s ≡ true)
    → (trace : Trace Call) → ever initial next test trace u ≡ true → ever initial next other trace u ≡ true
ever-mono initial next test other u each trace e =
    (ever-finds {A = Unit {0}} initial next test (λ x. other) (λ x. Unit {0}) u (λ call s h. (tt, each call s h, tt)) trace e).1
