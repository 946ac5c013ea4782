-- `Lawful` and `Reached` of specs/OneSlot.antt as tests that can be computed over a trace, and that a trace which passes the test has the property.
-- Proved for any trace, by induction over its acts. For a trace that is written out only the test has to be computed.
-- Assumes nothing.
use mathlib.Core.Path.{◌≡◌, refl, sym, ◌∙◌}
use mathlib.Core.Bool.{Bool, true, false, cond, ◌&&◌, ◌||◌, and-eq-true_iff, true≢false}
use mathlib.Core.List.{List}
use Prim.Native.Nat.{ℕ, zero, suc, ◌+◌, ◌<◌}
use native.Mathlib.Numerals.{add-one}
use native.Mathlib.Omega.{arith}
use lib.Arith.{lt_of_le-ne}
use lib.Dec.{leb, eqb}
use borrow.Author.Tests.{leb-true, eqb-true, eqb-false, ltb-true}
use Rattle.octets.specs.Octets.{same}
use Rattle.octets.proofs.Same.{same-says}
use Rattle.signers.specs.Sets.{NodeSet, count, both}
use Rattle.signers.specs.Signers.{member, within}
use Rattle.refusal.specs.Outcome.{Outcome, refused, done, after}
use Rattle.protocol.specs.Update as protocol
use Rattle.protocol.specs.Update.{signers_of, payload_of, Update}
use Rattle.protocol.specs.Trace as trace
use Rattle.protocol.specs.Trace.{Trace, start, ◌then◌calls◌, each}
use Rattle.protocol.specs.OneSlot.{Act, Broadcast, Receive, outcome, sends_this, signs, receives, current_record, ever, correct, Allowed, Lawful, Reached}

-- a test at each node below n holds for every node below n
pub each-says : (test : ℕ → Bool) (n u : ℕ) → each test n ≡ true → u < n → test u ≡ true
unfolding each
each-says test zero u e l = absurd (omega arith)
each-says test (suc n) u e l =
    let (last, rest) = (and-eq-true_iff (test n) (each test n)).0 e in
    go last (λ below. each-says test n u rest below) (eqb u n) refl
  where
    go : test n ≡ true → (u < n → test u ≡ true) → (b : Bool) → eqb u n ≡ b → test u ≡ true
    go last below true h = rw (eqb-true u n h) last
    go last below false h = below (lt_of_le-ne (omega arith) (eqb-false u n h))

pub each_next : (n : ℕ) (test : ℕ → Bool) → each test n ≡ true → test n ≡ true → each test (n + 1) ≡ true
unfolding each
each_next n test below here = rw (add-one n, here) below

pub each-fails : (n k : ℕ) (test : ℕ → Bool) → k < n → test k ≡ false → each test n ≡ false
each-fails n k test h fails = go (each test n) refl
  where
    go : (m : Bool) → each test n ≡ m → each test n ≡ false
    go true p = absurd (true≢false (sym (each-says test n k p h) ∙ fails))
    go false p = p

pub each-passes : (n : ℕ) (test : ℕ → Bool) → ((k : ℕ) → k < n → test k ≡ true) → each test n ≡ true
unfolding each
each-passes zero test all = refl
each-passes (suc n) test all = rw (all n (omega arith)) (each-passes n test (λ k h. all k (omega arith)))

-- an implication as a test
abbrev pub implies : Bool → Bool → Bool
implies a b = cond a b true

pub implies-says : (a b : Bool) → implies a b ≡ true → a ≡ true → b ≡ true
implies-says true b h e = h
implies-says false b h e = absurd (true≢false (sym e))

module _ (n q sender : ℕ) (faulty : NodeSet) where
  -- ---- what is allowed

  -- what `Allowed` asks, at the nodes below n; and what `Lawful` asks
  unfoldable pub allowed-test : Trace Act → ℕ → Act → Bool
  allowed-test earlier u (Broadcast payload) = eqb u sender
  allowed-test earlier u (Receive signers payload) =
      within signers n
      && (member signers sender && each (λ v. implies (correct n faulty v) (implies (member signers v) (ever q (signs q payload) earlier v))) n)

  unfoldable pub lawful-test : Trace Act → Bool
  lawful-test start = true
  lawful-test (earlier then u calls act) = lawful-test earlier && (correct n faulty u && allowed-test earlier u act)

  -- an act that passes is allowed, and a trace that passes is lawful
  allowed-says : (earlier : Trace Act) (u : ℕ) (act : Act) → allowed-test earlier u act ≡ true → Allowed n q sender faulty earlier u act
  unfolding allowed-test
  allowed-says earlier u (Broadcast payload) e = eqb-true u sender e
  allowed-says earlier u (Receive signers payload) e =
      let (known, rest) = (and-eq-true_iff (within signers n) _).0 e in
      let (present, signed) = (and-eq-true_iff (member signers sender) _).0 rest in (
        known,
        present,
        λ v c m.
            let below = ltb-true v n ((and-eq-true_iff _ _).0 c).0 in
            implies-says _ _ (implies-says _ _ (each-says _ n v signed below) c) m,
      )

  pub lawful-says : (trace : Trace Act) → lawful-test trace ≡ true → Lawful n q sender faulty trace
  unfolding lawful-test
  lawful-says start e = tt
  lawful-says (earlier then u calls act) e =
      let (before, rest) = (and-eq-true_iff (lawful-test earlier) _).0 e in
      let (is-correct, allowed) = (and-eq-true_iff (correct n faulty u) _).0 rest in
      (lawful-says earlier before, is-correct, allowed-says earlier u act allowed)

  -- ---- what was reached

  module _ (d : ℕ) where
    -- at least c - d correct nodes received the bundle
    unfoldable pub nearly-test : Trace Act → ℕ → List ℕ → Bool
    nearly-test whole signers payload =
        leb (count (correct n faulty) n) (d + count (both (correct n faulty) (ever q (receives q signers payload) whole)) n)

    -- what an act sent, if anything, passes a test on signers and payload
    unfoldable pub sent-test : (ℕ → List ℕ → Bool) → Outcome Update → Bool
    sent-test test o =
        after o (λ result. implies (protocol.sends result.answer) (test (signers_of result.new_record) (payload_of result.new_record))) true

    -- each bundle that a correct node sent by the first acts of a trace was received by at least c - d of them on the whole trace
    unfoldable pub reached-from : Trace Act → Trace Act → Bool
    reached-from whole start = true
    reached-from whole (earlier then u calls act) =
        reached-from whole earlier && implies (correct n faulty u) (sent-test (nearly-test whole) (outcome q u act (current_record q earlier u)))

    -- and by all its acts
    unfoldable pub reached-test : Trace Act → Bool
    reached-test trace = reached-from trace trace

    -- an act that sent this bundle passes the test only if this bundle does
    sent-says : (test : ℕ → List ℕ → Bool) (signers : ℕ) (payload : List ℕ) (o : Outcome Update) → sent-test test o ≡ true
        → after o (λ result. protocol.sends result.answer && (eqb (signers_of result.new_record) signers && same (payload_of result.new_record) payload)) false ≡ true
        → test signers payload ≡ true
    unfolding sent-test
    sent-says test signers payload (refused number) e h = absurd (true≢false (sym h))
    sent-says test signers payload (done result) e h =
        let (sent, this) = (and-eq-true_iff (protocol.sends result.answer) _).0 h in
        let (word, message) = (and-eq-true_iff (eqb (signers_of result.new_record) signers) _).0 this in
        let passed = implies-says (protocol.sends result.answer) _ e sent in
        rw (eqb-true (signers_of result.new_record) signers word, same-says (payload_of result.new_record) payload message) at passed

    -- a bundle that a correct node sent by the first acts passes
    from-says : (whole trace : Trace Act) (u signers : ℕ) (payload : List ℕ) → reached-from whole trace ≡ true → correct n faulty u ≡ true
        → ever q (sends_this q signers payload) trace u ≡ true → nearly-test whole signers payload ≡ true
    unfolding reached-from trace.ever sends_this
    from-says whole start u signers payload e is-correct sent = absurd (true≢false (sym sent))
    from-says whole (earlier then v calls act) u signers payload e is-correct sent =
        let (before, last) = (and-eq-true_iff (reached-from whole earlier) _).0 e in
        go last (λ s. from-says whole earlier u signers payload before is-correct s) (eqb u v && sends_this q signers payload u act (current_record q earlier u)) refl sent
      where
        go : implies (correct n faulty v) (sent-test (nearly-test whole) (outcome q v act (current_record q earlier v))) ≡ true
            → (ever q (sends_this q signers payload) earlier u ≡ true → nearly-test whole signers payload ≡ true)
            → (b : Bool) → (eqb u v && sends_this q signers payload u act (current_record q earlier u)) ≡ b
            → (b || ever q (sends_this q signers payload) earlier u) ≡ true → nearly-test whole signers payload ≡ true
        go last before true h s =
            let (here, this) = (and-eq-true_iff (eqb u v) _).0 h in
            let at-u = rw (sym (eqb-true u v here)) at last in
            sent-says (nearly-test whole) signers payload (outcome q u act (current_record q earlier u)) (implies-says _ _ at-u is-correct) this
        go last before false h s = before s

    -- so the test over the whole trace is what `Reached` asks
    pub reached-says : (trace : Trace Act) → reached-test trace ≡ true → Reached n q sender faulty d trace
    unfolding reached-test nearly-test
    reached-says trace e u signers payload is-correct sent = leb-true _ _ (from-says trace trace u signers payload e is-correct sent)
