-- Tests that can be computed over a list of calls: a list that passes `lawful-test` is lawful, as specs/Demand3.antt has it, and on one that passes
-- `sent-test` every bundle sent passes a given test. Proved for any system and list, by induction over its calls; for a list that is written out only the
-- tests have to be computed.
-- Assumes nothing.
use mathlib.Core.Path.{◌≡◌, refl, sym, ◌∙◌, subst}
use mathlib.Core.Bool.{Bool, true, false, not, ◌&&◌, ◌||◌, beq, and-eq-true_iff, true≢false}
use mathlib.Core.List.{List}
use Prim.Native.Nat.{ℕ}
use lib.Dec.{ltb, eqb}
use lib.ListN.{length}
use borrow.Author.Tests.{eqb-true, ltb-true}
use Rattle.octets.specs.Octets.{same}
use Rattle.octets.proofs.Same.{same-says}
use Rattle.octets.proofs.ComputedTests.{agree-says}
use Rattle.signers.specs.Signers.{member}
use Rattle.refusal.specs.Outcome.{Outcome, done, after}
use Rattle.config.specs.Config.{with_own, good, records_size}
use Rattle.bundle.specs.declared.Header.{Header}
use Rattle.bundle.specs.Bundle.{header_reasons, read_reasons, read, payload_part, slot_of}
use Rattle.protocol.specs.Trace as trace
use Rattle.protocol.specs.Trace.{Trace, start, ◌then◌calls◌, each}
use Rattle.protocol.proofs.TraceLaws.{ever-grows}
use Rattle.protocol.proofs.ComputedTests.{each-says, implies, implies-says}
use Rattle.system.specs.Demand3.{Call, Open, Broadcast, Receive, System, config_at, correct, records_after, out_after, opens, sends, sends_this, signs, buffer, ever, called, Unforged, Lawful}

-- where any result passes a test, the one that there is passes it
after-says : {A : Type 0} (outcome : Outcome A) (test : A → Bool) (result : A) → after outcome test true ≡ true → outcome ≡ done result → test result ≡ true
after-says outcome test result e h = rw h at e

module _ (s : System) where
  -- ---- what is lawful

  -- correct nodes read a bundle alike: reading asks of the own number only that it is below n
  read_alike : (u v : ℕ) (bundle : List ℕ) → correct s u ≡ true → correct s v ≡ true → read (config_at s u) bundle ≡ read (config_at s v) bundle
  unfolding correct config_at with_own good header_reasons read_reasons read
  read_alike u v bundle x y =
      let below = ((and-eq-true_iff (ltb u s.shared.n) _).0 x).0 in
      let below' = ((and-eq-true_iff (ltb v s.shared.n) _).0 y).0 in
      rw (below, below') refl

  payload-alike : (u v : ℕ) (bundle : List ℕ) → correct s u ≡ true → correct s v ≡ true → payload_part (config_at s u) bundle ≡ payload_part (config_at s v) bundle
  unfolding payload_part
  payload-alike u v bundle x y = rw (read_alike u v bundle x y) refl

  -- the bundle was given to a node before
  unfoldable pub given-before : (earlier : Trace Call) (bundle : List ℕ) → Bool
  given-before start bundle = false
  given-before (earlier then u calls Open) bundle = given-before earlier bundle
  given-before (earlier then u calls Broadcast given out) bundle = given-before earlier bundle
  given-before (earlier then u calls Receive given out) bundle = same given bundle || given-before earlier bundle

  -- if the node is correct and the header has its bit, it signed the payload in the header's slot earlier
  abbrev signed_test : (earlier : Trace Call) (payload : List ℕ) (h : Header) (node : ℕ) → Bool
  signed_test earlier payload h v =
      implies (correct s v) (implies (member h.signers v) (ever s (signs s (slot_of h) payload) earlier v))

  -- what `Unforged` asks of a bundle
  unfoldable pub unforged-now : (earlier : Trace Call) (node : ℕ) (bundle : List ℕ) → Bool
  unforged-now earlier u bundle =
      after (read (config_at s u) bundle) (λ h. each (signed_test earlier (payload_part (config_at s u) bundle) h) s.shared.n) true

  pub unforged-now-says : (earlier : Trace Call) (u : ℕ) (bundle out : List ℕ) → unforged-now earlier u bundle ≡ true → Unforged s earlier u (Receive bundle out)
  unfolding unforged-now correct
  unforged-now-says earlier u bundle out passed header accepted v fine bit =
      let all = after-says (read (config_at s u) bundle) (λ h. each (signed_test earlier (payload_part (config_at s u) bundle) h) s.shared.n) header passed accepted in
      let below = ltb-true v s.shared.n ((and-eq-true_iff _ _).0 fine).0 in
      implies-says _ _ (implies-says _ _ (each-says _ s.shared.n v all below) fine) bit

  -- it has to be computed only of one that was not given before; and what `Lawful` asks
  unfoldable pub unforged-test : (earlier : Trace Call) (node : ℕ) (call : Call) → Bool
  unforged-test earlier u Open = true
  unforged-test earlier u (Broadcast given out) = true
  unforged-test earlier u (Receive bundle out) = given-before earlier bundle || unforged-now earlier u bundle

  unfoldable pub lawful-test : (list : Trace Call) → Bool
  lawful-test start = true
  lawful-test (earlier then u calls call) =
      lawful-test earlier
      && (correct s u
      && (eqb (length (s.buffers u)) (records_size (config_at s u))
      && (beq (opens s u call (buffer s earlier u)) (not (called s earlier u))
      && unforged-test earlier u call)))

  -- what was unforged at a correct node before is so at another now
  unforged-still : (earlier : Trace Call) (u v w : ℕ) (call : Call) (bundle out : List ℕ) → correct s u ≡ true → correct s v ≡ true
      → Unforged s earlier v (Receive bundle out) → Unforged s (earlier then w calls call) u (Receive bundle out)
  unforged-still earlier u v w call bundle out x y old h accepted node fine bit =
      let signed = old h (sym (read_alike u v bundle x y) ∙ accepted) node fine bit in
      ever-grows s.buffers (records_after s) (signs s (slot_of h) (payload_part (config_at s u) bundle)) earlier node w call
      (rw (payload-alike u v bundle x y) signed)

  -- so a bundle that was given before on a lawful list is unforged
  given-before-says : (earlier : Trace Call) (u : ℕ) (bundle out : List ℕ) → Lawful s earlier → correct s u ≡ true → given-before earlier bundle ≡ true
      → Unforged s earlier u (Receive bundle out)
  unfolding given-before
  given-before-says start u bundle out lawful x e = absurd (true≢false (sym e))
  given-before-says (earlier then v calls Open) u bundle out lawful x e =
      unforged-still earlier u u v Open bundle out x x (given-before-says earlier u bundle out lawful.0 x e)
  given-before-says (earlier then v calls Broadcast given sent) u bundle out lawful x e =
      unforged-still earlier u u v (Broadcast given sent) bundle out x x (given-before-says earlier u bundle out lawful.0 x e)
  given-before-says (earlier then v calls Receive given sent) u bundle out lawful x e =
      go (same given bundle) refl e (λ h. given-before-says earlier u bundle out lawful.0 x h)
    where
      go : (b : Bool) → same given bundle ≡ b → (b || given-before earlier bundle) ≡ true
          → (given-before earlier bundle ≡ true → Unforged s earlier u (Receive bundle out))
          → Unforged s (earlier then v calls Receive given sent) u (Receive bundle out)
      go true h either before =
          unforged-still earlier u v v (Receive given sent) bundle out x lawful.1
          (subst (λ b. Unforged s earlier v (Receive b out)) (same-says given bundle h) lawful.4)
      go false h either before = unforged-still earlier u u v (Receive given sent) bundle out x x (before either)

  -- a call that passes is unforged, and a list that passes is lawful
  unforged-says : (earlier : Trace Call) (u : ℕ) (call : Call) → Lawful s earlier → correct s u ≡ true → unforged-test earlier u call ≡ true
      → Unforged s earlier u call
  unfolding unforged-test
  unforged-says earlier u Open lawful x e = tt
  unforged-says earlier u (Broadcast given out) lawful x e = tt
  unforged-says earlier u (Receive bundle out) lawful x e = go (given-before earlier bundle) refl e
    where
      go : (b : Bool) → given-before earlier bundle ≡ b → (b || unforged-now earlier u bundle) ≡ true → Unforged s earlier u (Receive bundle out)
      go true h either = given-before-says earlier u bundle out lawful x h
      go false h passed = unforged-now-says earlier u bundle out passed

  pub lawful-says : (list : Trace Call) → lawful-test list ≡ true → Lawful s list
  unfolding lawful-test
  lawful-says start e = tt
  lawful-says (earlier then u calls call) e =
      let (before, rest) = (and-eq-true_iff (lawful-test earlier) _).0 e in
      let (fine, rest') = (and-eq-true_iff (correct s u) _).0 rest in
      let (sized, rest'') = (and-eq-true_iff (eqb (length (s.buffers u)) (records_size (config_at s u))) _).0 rest' in
      let (first, unforged) = (and-eq-true_iff (beq (opens s u call (buffer s earlier u)) (not (called s earlier u))) _).0 rest'' in
      let past = lawful-says earlier before in
      (past, fine, eqb-true _ _ sized, agree-says _ _ first, unforged-says earlier u call past fine unforged)

  -- ---- what is sent

  module _ (test : List ℕ → Bool) where
    -- each bundle sent passes the test
    unfoldable pub sent-test : (list : Trace Call) → Bool
    sent-test start = true
    sent-test (earlier then u calls call) =
        sent-test earlier && implies (sends s u call (buffer s earlier u)) (test (out_after s u call (buffer s earlier u)))

    pub sent-says : (list : Trace Call) (u : ℕ) (bundle : List ℕ) → sent-test list ≡ true → ever s (sends_this s bundle) list u ≡ true → test bundle ≡ true
    unfolding sent-test trace.ever sends_this
    sent-says start u bundle e sent = absurd (true≢false (sym sent))
    sent-says (earlier then v calls call) u bundle e sent =
        let (before, last) = (and-eq-true_iff (sent-test earlier) _).0 e in
        go last (λ h. sent-says earlier u bundle before h) (eqb u v && sends_this s bundle u call (buffer s earlier u)) refl sent
      where
        go : implies (sends s v call (buffer s earlier v)) (test (out_after s v call (buffer s earlier v))) ≡ true
            → (ever s (sends_this s bundle) earlier u ≡ true → test bundle ≡ true)
            → (b : Bool) → (eqb u v && sends_this s bundle u call (buffer s earlier u)) ≡ b
            → (b || ever s (sends_this s bundle) earlier u) ≡ true → test bundle ≡ true
        go last before true h x =
            let (here, this) = (and-eq-true_iff (eqb u v) _).0 h in
            let (sending, bytes) = (and-eq-true_iff (sends s u call (buffer s earlier u)) _).0 this in
            let at-u = rw (sym (eqb-true u v here)) at last in
            let passed = implies-says _ _ at-u sending in
            rw (same-says (out_after s u call (buffer s earlier u)) bundle bytes) at passed
        go last before false h x = before x
