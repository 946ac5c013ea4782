-- What a node has signed so far, by the state of its record, whatever it receives: nothing while the record is empty, the record's payload and no other while it is
-- held, and one payload once it is delivered. So no node signs two payloads, also where others' signatures are forged. Assumes nothing.
use mathlib.Core.Path.{◌≡◌, sym, ◌∙◌}
use mathlib.Core.Logic.{◌⊎◌, inl, inr}
use mathlib.Core.Bool.{Bool, true, false, ◌&&◌, true≢false, false≢true, and-eq-true_iff}
use mathlib.Core.List.{List}
use Prim.Native.Nat.{ℕ, ◌<◌}
use Rattle.octets.specs.Octets.{same}
use Rattle.octets.proofs.Booleans.{or_cases}
use Rattle.octets.proofs.Same.{same-says, same_self}
use Rattle.signers.specs.Signers.{member}
use Rattle.signers.proofs.Members.{insert-own}
use Rattle.refusal.specs.Outcome.{Outcome, refused, after}
use Rattle.protocol.specs.Update.{Record, Empty, Held, Delivered, Update}
use Rattle.protocol.specs.Trace as trace
use Rattle.protocol.specs.Trace.{Trace, ◌then◌calls◌}
use Rattle.protocol.specs.OneSlot.{Act, record_after, signs, current_record, ever}
use Rattle.protocol.proofs.TraceLaws.{ever-grows}
use Rattle.protocol.proofs.UpdateCases.{UpdateCase, refusing, broadcasting, signing, signing-and-delivering, joining, completing, replacing, noting}
use Rattle.protocol.proofs.TraceInduction.{result_signs, NodeView, trace-induction}

-- what is signed now is this payload
signed_same : (first payload : List ℕ) (b : Bool) → (same first payload && b) ≡ true → payload ≡ first
signed_same first payload b e = sym (same-says first payload ((and-eq-true_iff (same first payload) b).0 e).0)

-- the node has signed this payload and no other
pub record SignedOnly (q : ℕ) (trace : Trace Act) (u : ℕ) (payload : List ℕ) : Type 0 where
  pub signed : ever q (signs q payload) trace u ≡ true
  pub only : (other : List ℕ) → ever q (signs q other) trace u ≡ true → other ≡ payload

-- what it has signed in each state of the record; what was delivered may be another payload
abbrev pub SignedSoFar : (q : ℕ) (trace : Trace Act) (u : ℕ) (r : Record) → Type 0
SignedSoFar q trace u Empty = (payload : List ℕ) → ever q (signs q payload) trace u ≡ true → ⊥
SignedSoFar q trace u (Held signers payload note) = SignedOnly q trace u payload
SignedSoFar q trace u (Delivered signers payload note) = (first : List ℕ) × SignedOnly q trace u first

module _ (q : ℕ) where
  module _ (earlier : Trace Act) (u caller : ℕ) (act : Act) (r : Record) (o : Outcome Update) (view : NodeView q earlier u caller act r o) (payload : List ℕ)
      (this : (other : List ℕ) → after o (result_signs other u) false ≡ true → other ≡ payload) where
    -- the act signs this payload, or nothing, and no other was signed before
    signed-only : ever q (signs q payload) (earlier then caller calls act) u ≡ true
        → ((other : List ℕ) → ever q (signs q other) earlier u ≡ true → other ≡ payload) → SignedOnly q (earlier then caller calls act) u payload
    signed-only now before =
        record { signed = now; only = λ other e. either other (or_cases (after o (result_signs other u) false) _ (sym (view.signed other) ∙ e)) }
      where
        either : (other : List ℕ) → (after o (result_signs other u) false ≡ true) ⊎ (ever q (signs q other) earlier u ≡ true) → other ≡ payload
        either other (inl e) = this other e
        either other (inr e) = before other e

    -- it was signed before
    signed-still : SignedOnly q earlier u payload → SignedOnly q (earlier then caller calls act) u payload
    signed-still before =
        signed-only (ever-grows (λ node. Empty) (record_after q) (signs q payload) earlier u caller act before.signed) before.only

  -- an act that is refused signs nothing
  signed-refused : (earlier : Trace Act) (u caller : ℕ) (act : Act) (r : Record) (number : ℕ) → NodeView q earlier u caller act r (refused number)
      → SignedSoFar q earlier u r → SignedSoFar q (earlier then caller calls act) u r
  signed-refused earlier u caller act Empty number view before = λ payload e. before payload (sym (view.signed payload) ∙ e)
  signed-refused earlier u caller act (Held signers payload note) number view before =
      signed-still earlier u caller act (Held signers payload note) (refused number) view payload (λ other e. absurd (false≢true e)) before
  signed-refused earlier u caller act (Delivered signers payload note) number view (first, before) =
      (first, signed-still earlier u caller act (Delivered signers payload note) (refused number) view first (λ other e. absurd (false≢true e)) before)

  -- It holds after one act more. Where a bundle replaces the payload, it has not the node's signature.
  signed-step : (earlier : Trace Act) (u caller : ℕ) (act : Act) (r : Record) (o : Outcome Update)
      → UpdateCase q u caller act r o → NodeView q earlier u caller act r o → u < 64
      → SignedSoFar q earlier u r → SignedSoFar q (earlier then caller calls act) u (after o (λ result. result.new_record) r)
  signed-step earlier u caller act r o (refusing {number = number} why) view room before = signed-refused earlier u caller act r number view before
  signed-step earlier u caller act r o (broadcasting {payload = payload} own) view room before =
      signed-only earlier u caller act r o view payload (λ other e. signed_same payload other _ e)
      (view.signed payload ∙ rw (same_self payload, insert-own 0 u room)) (λ other e. absurd (before other e))
  signed-step earlier u caller act r o (signing {signers = signers} {payload = payload} absent few) view room before =
      signed-only earlier u caller act r o view payload (λ other e. signed_same payload other _ e)
      (view.signed payload ∙ rw (same_self payload, insert-own signers u room)) (λ other e. absurd (before other e))
  signed-step earlier u caller act r o (signing-and-delivering {signers = signers} {payload = payload} absent enough) view room before = (
    payload,
    signed-only earlier u caller act r o view payload (λ other e. signed_same payload other _ e)
        (view.signed payload ∙ rw (same_self payload, insert-own signers u room)) (λ other e. absurd (before other e)),
  )
  signed-step earlier u caller act r o (joining {payload = payload} few) view room before =
      signed-still earlier u caller act r o view payload (λ other e. absurd (false≢true e)) before
  signed-step earlier u caller act r o (completing {payload = payload} enough) view room before =
      (payload, signed-still earlier u caller act r o view payload (λ other e. signed_same payload other _ e) before)
  signed-step earlier u caller act r o (replacing {signers = signers} {payload = payload} {held = held} other absent enough) view room before = (
    held,
    signed-still earlier u caller act r o view held
        (λ x e. absurd (true≢false (sym ((and-eq-true_iff (same payload x) (member signers u)).0 e).1 ∙ absent))) before,
  )
  signed-step earlier u caller act r o (noting {held = held} other few known) view room before =
      signed-still earlier u caller act r o view held (λ x e. absurd (false≢true e)) before

  -- so it holds of every node after every trace
  pub signed-so-far : (trace : Trace Act) (u : ℕ) → u < 64 → SignedSoFar q trace u (current_record q trace u)
  unfolding trace.ever
  signed-so-far =
      trace-induction q (λ trace u r. u < 64 → SignedSoFar q trace u r)
      (λ u room payload e. false≢true e)
      (λ earlier u caller act r o kind view below room. signed-step earlier u caller act r o kind view room (below room))

  -- and no node signs two payloads
  pub signs-one-payload : (trace : Trace Act) (u : ℕ) → u < 64 → (first second : List ℕ)
      → ever q (signs q first) trace u ≡ true → ever q (signs q second) trace u ≡ true → first ≡ second
  signs-one-payload trace u room first second a b = go (current_record q trace u) (signed-so-far trace u room)
    where
      go : (r : Record) → SignedSoFar q trace u r → first ≡ second
      go Empty none = absurd (none first a)
      go (Held signers payload note) s = s.only first a ∙ sym (s.only second b)
      go (Delivered signers payload note) (signed, s) = s.only first a ∙ sym (s.only second b)
