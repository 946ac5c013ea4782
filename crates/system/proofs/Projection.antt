-- A trace of calls, and the trace of the acts that some of its calls come to. Where each call matches its act, a test on the one trace passes with a
-- test on the other. From the definitions of protocol's specs/Trace.antt, for any calls and acts, states and records.
-- Assumes nothing.
use mathlib.Core.Path.{◌≡◌, refl, sym, ◌∙◌, subst}
use mathlib.Core.Logic.{◌⊎◌, inl, inr}
use mathlib.Core.Option.{Option, none, some}
use mathlib.Core.Bool.{Bool, true, false, cond, ◌&&◌, ◌||◌, true≢false, and-false, and-eq-true_iff}
use Prim.Native.Nat.{ℕ, ◌+◌, ◌≤◌, zero-le}
use native.Mathlib.Nat.{zero-add}
use native.Mathlib.Omega.{arith}
use lib.Dec.{eqb}
use borrow.Author.Tests.{eqb-true}
use Rattle.octets.proofs.Booleans.{or_cases}
use Rattle.signers.specs.Sets.{indicator}
use Rattle.signers.proofs.Counting.{indicator-mono}
use Rattle.protocol.specs.Trace.{Trace, start, ◌then◌calls◌, state, ever, times}

-- ---- Booleans

or_mono : (a b c d : Bool) → (a ≡ true → b ≡ true) → (c ≡ true → d ≡ true) → (a || c) ≡ true → (b || d) ≡ true
or_mono true b c d f g e = rw (f refl)
or_mono false true c d f g e = refl
or_mono false false c d f g e = g e

and_mono : (x a b : Bool) → (x ≡ true → a ≡ true → b ≡ true) → (x && a) ≡ true → (x && b) ≡ true
and_mono true a b f e = f refl e
and_mono false a b f e = e

-- ---- calls alone

module _ {Call State : Type 0} (initial : (node : ℕ) → State) (next : (node : ℕ) (call : Call) (found : State) → State)
    (callTest : (node : ℕ) (call : Call) (found : State) → Bool) (node : ℕ) where
  -- what follows from any one call that passes a test follows from a trace with such a call
  pub ever-says : {P : Type 0} → ((call : Call) (found : State) → callTest node call found ≡ true → P)
      → (trace : Trace Call) → ever initial next callTest trace node ≡ true → P
  unfolding ever
  ever-says h start e = absurd (true≢false (sym e))
  ever-says {P = P} h (earlier then v calls call) e =
      go (ever-says h earlier) (or_cases (eqb node v && callTest node call (state initial next earlier node)) (ever initial next callTest earlier node) e)
    where
      go : (ever initial next callTest earlier node ≡ true → P)
          → ((eqb node v && callTest node call (state initial next earlier node)) ≡ true) ⊎ (ever initial next callTest earlier node ≡ true) → P
      go below (inl x) = h call (state initial next earlier node) ((and-eq-true_iff (eqb node v) (callTest node call (state initial next earlier node))).0 x).1
      go below (inr x) = below x

  -- where no call passes, none is counted
  pub never-times : (trace : Trace Call) → ever initial next callTest trace node ≡ false → times initial next callTest trace node ≡ 0
  unfolding ever times
  never-times start e = refl
  never-times (earlier then v calls call) e =
      go (eqb node v && callTest node call (state initial next earlier node)) (never-times earlier) e
    where
      go : (b : Bool) → (ever initial next callTest earlier node ≡ false → times initial next callTest earlier node ≡ 0)
          → (b || ever initial next callTest earlier node) ≡ false → indicator b + times initial next callTest earlier node ≡ 0
      go true below x = absurd (true≢false x)
      go false below x = rw (below x)

-- ---- calls and acts

module _ {Call Act State Record : Type 0} (initial : (node : ℕ) → State) (next : (node : ℕ) (call : Call) (found : State) → State)
    (initialRecord : (node : ℕ) → Record) (nextRecord : (node : ℕ) (act : Act) (r : Record) → Record)
    (act : (node : ℕ) (call : Call) (found : State) → Option Act) where
  -- one act more, or none
  abbrev pub extended : (acts : Trace Act) (node : ℕ) (made : Option Act) → Trace Act
  extended acts v none = acts
  extended acts v (some a) = acts then v calls a

  -- the acts that the calls come to
  unfoldable pub project : (list : Trace Call) → Trace Act
  project start = start
  project (earlier then v calls call) = extended (project earlier) v (act v call (state initial next earlier v))

  -- whether an act passes a test, and the record that it leaves; without an act nothing passes, and the record stays
  abbrev pub act_passes : (actTest : (node : ℕ) (act : Act) (r : Record) → Bool) (node : ℕ) (made : Option Act) (r : Record) → Bool
  act_passes actTest node none r = false
  act_passes actTest node (some a) r = actTest node a r

  abbrev pub record_left : (node : ℕ) (made : Option Act) (r : Record) → Record
  record_left node none r = r
  record_left node (some a) r = nextRecord node a r

  state-extended : (acts : Trace Act) (v : ℕ) (made : Option Act) (node : ℕ)
      → state initialRecord nextRecord (extended acts v made) node ≡ cond (eqb node v) (record_left node made (state initialRecord nextRecord acts node)) (state initialRecord nextRecord acts node)
  unfolding state
  state-extended acts v none node = go (eqb node v) (state initialRecord nextRecord acts node)
    where
      go : (b : Bool) (r : Record) → r ≡ cond b r r
      go true r = refl
      go false r = refl
  state-extended acts v (some a) node = refl

  -- the record after a call, at the call's node and at any other
  pub state-project : (earlier : Trace Call) (v : ℕ) (call : Call) (node : ℕ)
      → state initialRecord nextRecord (project (earlier then v calls call)) node
      ≡ cond (eqb node v)
      (record_left node (act v call (state initial next earlier v)) (state initialRecord nextRecord (project earlier) node))
      (state initialRecord nextRecord (project earlier) node)
  unfolding project
  state-project earlier v call node = state-extended (project earlier) v (act v call (state initial next earlier v)) node

  module _ (Matches : (node : ℕ) (call : Call) (found : State) (r : Record) (made : Option Act) → Type 0) where
    -- each call matches its act, or that it has none
    abbrev pub Matched : (list : Trace Call) → Type 0
    Matched start = Unit
    Matched (earlier then v calls call) =
        Matched earlier
        × Matches v call (state initial next earlier v) (state initialRecord nextRecord (project earlier) v) (act v call (state initial next earlier v))

    matches-at : (earlier : Trace Call) (v : ℕ) (call : Call) (node : ℕ) → Matched (earlier then v calls call) → eqb node v ≡ true
        → Matches node call (state initial next earlier node) (state initialRecord nextRecord (project earlier) node) (act v call (state initial next earlier v))
    matches-at earlier v call node ms e =
        subst (λ (x : ℕ). Matches x call (state initial next earlier x) (state initialRecord nextRecord (project earlier) x) (act v call (state initial next earlier v)))
        (sym (eqb-true node v e)) ms.1

    module _ (actTest : (node : ℕ) (act : Act) (r : Record) → Bool) (node : ℕ) where
      ever-extended : (acts : Trace Act) (v : ℕ) (made : Option Act)
          → ever initialRecord nextRecord actTest (extended acts v made) node ≡ ((eqb node v && act_passes actTest node made (state initialRecord nextRecord acts node)) || ever initialRecord nextRecord actTest acts node)
      unfolding ever
      ever-extended acts v none = rw (and-false (eqb node v))
      ever-extended acts v (some a) = refl

      times-extended : (acts : Trace Act) (v : ℕ) (made : Option Act)
          → times initialRecord nextRecord actTest (extended acts v made) node ≡ indicator (eqb node v && act_passes actTest node made (state initialRecord nextRecord acts node)) + times initialRecord nextRecord actTest acts node
      unfolding times
      times-extended acts v none = rw (and-false (eqb node v)) (sym (zero-add (times initialRecord nextRecord actTest acts node)))
      times-extended acts v (some a) = refl

      -- what follows from any one act that passes a test, and the call that it matches, follows from a trace with such an act
      pub act-says : {P : Type 0} → ((call : Call) (found : State) (r : Record) (made : Option Act) → Matches node call found r made → act_passes actTest node made r ≡ true → P)
          → (trace : Trace Call) → Matched trace → ever initialRecord nextRecord actTest (project trace) node ≡ true → P
      unfolding ever project
      act-says h start ms e = absurd (true≢false (sym e))
      act-says {P = P} h (earlier then v calls call) ms e =
          go (act-says h earlier ms.0)
          (or_cases _ _ (sym (ever-extended (project earlier) v (act v call (state initial next earlier v))) ∙ e))
        where
          go : (ever initialRecord nextRecord actTest (project earlier) node ≡ true → P)
              → ((eqb node v && act_passes actTest node (act v call (state initial next earlier v)) (state initialRecord nextRecord (project earlier) node)) ≡ true)
              ⊎ (ever initialRecord nextRecord actTest (project earlier) node ≡ true) → P
          go below (inl x) =
              let b = (and-eq-true_iff _ _).0 x in
              h call (state initial next earlier node) (state initialRecord nextRecord (project earlier) node) (act v call (state initial next earlier v))
              (matches-at earlier v call node ms b.0) b.1
          go below (inr x) = below x

      module _ (callTest : (node : ℕ) (call : Call) (found : State) → Bool) where
        -- a call that passes comes to an act that passes: so on traces, and in numbers
        module _ (h : (call : Call) (found : State) (r : Record) (made : Option Act) → Matches node call found r made → callTest node call found ≡ true → act_passes actTest node made r ≡ true) where
          here-forth : (earlier : Trace Call) (v : ℕ) (call : Call) → Matched (earlier then v calls call)
              → (eqb node v && callTest node call (state initial next earlier node)) ≡ true
              → (eqb node v && act_passes actTest node (act v call (state initial next earlier v)) (state initialRecord nextRecord (project earlier) node)) ≡ true
          here-forth earlier v call ms =
              and_mono _ _ _
              (λ e. h call (state initial next earlier node) (state initialRecord nextRecord (project earlier) node) (act v call (state initial next earlier v))
              (matches-at earlier v call node ms e))

          pub ever-forth : (trace : Trace Call) → Matched trace → ever initial next callTest trace node ≡ true → ever initialRecord nextRecord actTest (project trace) node ≡ true
          unfolding ever project
          ever-forth start ms e = e
          ever-forth (earlier then v calls call) ms e =
              ever-extended (project earlier) v (act v call (state initial next earlier v))
              ∙ or_mono _ _ _ _ (here-forth earlier v call ms) (ever-forth earlier ms.0) e

          pub times-forth : (trace : Trace Call) → Matched trace → times initial next callTest trace node ≤ times initialRecord nextRecord actTest (project trace) node
          unfolding times project
          times-forth start ms = zero-le
          times-forth (earlier then v calls call) ms =
              let few = indicator-mono _ _ (here-forth earlier v call ms) in
              let less = times-forth earlier ms.0 in
              rw (times-extended (project earlier) v (act v call (state initial next earlier v))) (omega arith)

        -- an act that passes comes from a call that passes
        module _ (h : (call : Call) (found : State) (r : Record) (made : Option Act) → Matches node call found r made → act_passes actTest node made r ≡ true → callTest node call found ≡ true) where
          here_back : (earlier : Trace Call) (v : ℕ) (call : Call) → Matched (earlier then v calls call)
              → (eqb node v && act_passes actTest node (act v call (state initial next earlier v)) (state initialRecord nextRecord (project earlier) node)) ≡ true
              → (eqb node v && callTest node call (state initial next earlier node)) ≡ true
          here_back earlier v call ms =
              and_mono _ _ _
              (λ e. h call (state initial next earlier node) (state initialRecord nextRecord (project earlier) node) (act v call (state initial next earlier v))
              (matches-at earlier v call node ms e))

          pub ever-back : (trace : Trace Call) → Matched trace → ever initialRecord nextRecord actTest (project trace) node ≡ true → ever initial next callTest trace node ≡ true
          unfolding ever project
          ever-back start ms e = e
          ever-back (earlier then v calls call) ms e =
              or_mono _ _ _ _ (here_back earlier v call ms) (ever-back earlier ms.0)
              (sym (ever-extended (project earlier) v (act v call (state initial next earlier v))) ∙ e)
