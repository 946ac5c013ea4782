-- Induction over a trace at one node: each act is one of the update cases at the node, and what the node has sent, signed, delivered and received grows
-- by what the act does there.
-- Assumes nothing.
use mathlib.Core.Path.{◌≡◌, refl, sym, ap, ◌∙◌, subst}
use mathlib.Core.Logic.{◌⊎◌, inl, inr}
use mathlib.Core.Bool.{Bool, true, false, ◌&&◌, ◌||◌, false≢true, and-eq-true_iff}
use mathlib.Core.List.{List}
use Prim.Native.Nat.{ℕ, ◌+◌, ◌≤◌}
use native.Mathlib.Nat.{le_of_eq}
use native.Mathlib.Omega.{arith}
use lib.Dec.{eqb}
use borrow.Author.Tests.{eqb-true, eqb-false}
use Rattle.octets.specs.Octets.{same}
use Rattle.octets.proofs.Same.{same-says}
use Rattle.signers.specs.Sets.{indicator}
use Rattle.signers.specs.Signers.{member}
use Rattle.signers.proofs.Counting.{indicator-mono}
use Rattle.refusal.specs.Outcome.{Outcome, refused, unless, after}
use Rattle.protocol.specs.Update as protocol
use Rattle.protocol.specs.Update.{Record, Empty, Held, Delivered, is_empty, signers_of, payload_of, Update}
use Rattle.protocol.specs.Trace.{Trace, start, ◌then◌calls◌, state}
use Rattle.protocol.specs.OneSlot.{Act, Broadcast, Receive, outcome, record_after, sends, sends_this, signs, delivers, delivers_this, broadcasts, broadcasts_this, receives, current_record, ever, times}
use Rattle.protocol.proofs.TraceLaws.{state-own, state-other, ever-own, ever-other, times-own, times-other}
use Rattle.protocol.proofs.UpdateCases.{UpdateCase, refusing, update-case}

-- what is asked of the result of an update: it sends this bundle, signs this payload, delivers this payload
abbrev pub result_sends : (signers : ℕ) (payload : List ℕ) (result : Update) → Bool
result_sends signers payload result = protocol.sends result.answer && (eqb (signers_of result.new_record) signers && same (payload_of result.new_record) payload)

abbrev pub result_signs : (payload : List ℕ) (own : ℕ) (result : Update) → Bool
result_signs payload own result = protocol.sends result.answer && (same (payload_of result.new_record) payload && member (signers_of result.new_record) own)

abbrev pub result_delivers : (payload : List ℕ) (result : Update) → Bool
result_delivers payload result = protocol.delivers result.answer && same (payload_of result.new_record) payload

-- One act more, seen at node u: the act is at the caller, u has the record r before it, and it comes to the outcome o at u. How what u has sent, signed,
-- delivered, broadcast and received grows by it.
pub record NodeView (q : ℕ) (earlier : Trace Act) (u caller : ℕ) (act : Act) (r : Record) (o : Outcome Update) : Type 0 where
  pub found : current_record q earlier u ≡ r
  pub sent : (signers : ℕ) (payload : List ℕ)
      → ever q (sends_this q signers payload) (earlier then caller calls act) u
      ≡ (after o (result_sends signers payload) false || ever q (sends_this q signers payload) earlier u)
  pub signed : (payload : List ℕ)
      → ever q (signs q payload) (earlier then caller calls act) u ≡ (after o (result_signs payload u) false || ever q (signs q payload) earlier u)
  pub delivered : (payload : List ℕ)
      → ever q (delivers_this q payload) (earlier then caller calls act) u
      ≡ (after o (result_delivers payload) false || ever q (delivers_this q payload) earlier u)
  pub sendings : times q (sends q) (earlier then caller calls act) u
      ≡ indicator (after o (λ result. protocol.sends result.answer) false) + times q (sends q) earlier u
  pub deliveries : times q (delivers q) (earlier then caller calls act) u
      ≡ indicator (after o (λ result. protocol.delivers result.answer) false) + times q (delivers q) earlier u
  pub announcements : times q (broadcasts q) (earlier then caller calls act) u
      ≤ indicator (after o (λ result. is_empty r) false) + times q (broadcasts q) earlier u
  pub announced : (payload : List ℕ) → u ≡ caller → broadcasts_this q payload u act r ≡ true
      → ever q (broadcasts_this q payload) (earlier then caller calls act) u ≡ true
  pub received : (signers : ℕ) (payload : List ℕ) → ever q (receives q signers payload) (earlier then caller calls act) u ≡ true
      → ((u ≡ caller) × (act ≡ Receive signers payload)) ⊎ (ever q (receives q signers payload) earlier u ≡ true)

module _ (q : ℕ) (earlier : Trace Act) (u : ℕ) where
  -- an act that receives this bundle is this one
  receives-this : (signers : ℕ) (payload : List ℕ) (act : Act) (r : Record) → receives q signers payload u act r ≡ true → act ≡ Receive signers payload
  unfolding receives
  receives-this signers payload (Broadcast first) r e = absurd (false≢true e)
  receives-this signers payload (Receive given first) r e =
      let (a, b) = (and-eq-true_iff (eqb given signers) (same first payload)).0 e in
      ap (λ (s : ℕ). Receive s first) (eqb-true given signers a) ∙ ap (Receive signers) (same-says first payload b)

  -- a node that broadcasts has an empty record, and is not refused
  broadcasts-empty : (act : Act) (r : Record) → broadcasts q u act r ≡ true → after (outcome q u act r) (λ result. is_empty r) false ≡ true
  unfolding broadcasts outcome unless
  broadcasts-empty (Broadcast payload) Empty e = refl
  broadcasts-empty (Broadcast payload) (Held signers held note) e = e
  broadcasts-empty (Broadcast payload) (Delivered signers held note) e = e
  broadcasts-empty (Receive signers payload) r e = absurd (false≢true e)

  -- at the caller the outcome is that of the act
  view-own : (act : Act) → NodeView q earlier u u act (current_record q earlier u) (outcome q u act (current_record q earlier u))
  unfolding sends sends_this signs delivers delivers_this
  view-own act =
      record {
        found = refl;
        sent = λ signers payload. ever-own (λ node. Empty) (record_after q) (sends_this q signers payload) earlier u act;
        signed = λ payload. ever-own (λ node. Empty) (record_after q) (signs q payload) earlier u act;
        delivered = λ payload. ever-own (λ node. Empty) (record_after q) (delivers_this q payload) earlier u act;
        sendings = times-own (λ node. Empty) (record_after q) (sends q) earlier u act;
        deliveries = times-own (λ node. Empty) (record_after q) (delivers q) earlier u act;
        announcements =
            let few = indicator-mono _ _ (broadcasts-empty act (current_record q earlier u)) in
            rw (times-own (λ node. Empty) (record_after q) (broadcasts q) earlier u act) (omega arith);
        announced = λ payload own e.
            ever-own (λ node. Empty) (record_after q) (broadcasts_this q payload) earlier u act
            ∙ ap (λ (b : Bool). b || ever q (broadcasts_this q payload) earlier u) e;
        received = λ signers payload e.
            either signers payload (receives q signers payload u act (current_record q earlier u)) refl
            (sym (ever-own (λ node. Empty) (record_after q) (receives q signers payload) earlier u act) ∙ e);
      }
    where
      either : (signers : ℕ) (payload : List ℕ) (b : Bool) → receives q signers payload u act (current_record q earlier u) ≡ b
          → (b || ever q (receives q signers payload) earlier u) ≡ true
          → ((u ≡ u) × (act ≡ Receive signers payload)) ⊎ (ever q (receives q signers payload) earlier u ≡ true)
      either signers payload true b e = inl (refl, receives-this signers payload act (current_record q earlier u) b)
      either signers payload false b e = inr e

  -- at any other node nothing happens, as if the act were refused
  view-other : (v : ℕ) (act : Act) → eqb u v ≡ false → NodeView q earlier u v act (current_record q earlier u) (refused 0)
  view-other v act e =
      record {
        found = refl;
        sent = λ signers payload. ever-other (λ node. Empty) (record_after q) (sends_this q signers payload) earlier u v act e;
        signed = λ payload. ever-other (λ node. Empty) (record_after q) (signs q payload) earlier u v act e;
        delivered = λ payload. ever-other (λ node. Empty) (record_after q) (delivers_this q payload) earlier u v act e;
        sendings = times-other (λ node. Empty) (record_after q) (sends q) earlier u v act e;
        deliveries = times-other (λ node. Empty) (record_after q) (delivers q) earlier u v act e;
        announcements = le_of_eq (times-other (λ node. Empty) (record_after q) (broadcasts q) earlier u v act e);
        announced = λ payload own k. absurd (eqb-false u v e own);
        received = λ signers payload k. inr (sym (ever-other (λ node. Empty) (record_after q) (receives q signers payload) earlier u v act e) ∙ k);
      }

-- What holds of an empty record before any act, and still holds after one act more, holds of each node's record after every trace.
pub trace-induction : (q : ℕ) (P : Trace Act → ℕ → Record → Type 0)
    → ((u : ℕ) → P start u Empty)
    → ((earlier : Trace Act) (u caller : ℕ) (act : Act) (r : Record) (o : Outcome Update)
    → UpdateCase q u caller act r o → NodeView q earlier u caller act r o
    → P earlier u r → P (earlier then caller calls act) u (after o (λ result. result.new_record) r))
    → (trace : Trace Act) (u : ℕ) → P trace u (current_record q trace u)
unfolding state record_after
trace-induction q P begin step start u = begin u
trace-induction q P begin step (earlier then v calls act) u = go (trace-induction q P begin step earlier u) (eqb u v) refl
  where
    own : P earlier u (current_record q earlier u) → P (earlier then u calls act) u (current_record q (earlier then u calls act) u)
    own below =
        subst (P (earlier then u calls act) u) (sym (state-own (λ node. Empty) (record_after q) earlier u act))
        (step earlier u u act (current_record q earlier u) (outcome q u act (current_record q earlier u)) (update-case q u act (current_record q earlier u))
        (view-own q earlier u act) below)

    go : P earlier u (current_record q earlier u) → (b : Bool) → eqb u v ≡ b → P (earlier then v calls act) u (current_record q (earlier then v calls act) u)
    go below true e = subst (λ (w : ℕ). P (earlier then w calls act) u (current_record q (earlier then w calls act) u)) (eqb-true u v e) (own below)
    go below false e =
        subst (P (earlier then v calls act) u) (sym (state-other (λ node. Empty) (record_after q) earlier u v act e))
        (step earlier u v act (current_record q earlier u) (refused 0) (refusing (λ k. absurd (eqb-false u v e k))) (view-other q earlier u v act e) below)
