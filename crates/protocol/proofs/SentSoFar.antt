-- What a node has sent and delivered so far, by the state of its record: while the record is empty or held, the node has delivered nothing, and once it
-- is delivered, the record's payload, once. While it is empty the node has broadcast nothing. So no node delivers or broadcasts twice, and none sends
-- more than two bundles, whatever bundles it receives. Assumes nothing.
use mathlib.Core.Path.{◌≡◌, refl, sym, ap, ◌∙◌}
use mathlib.Core.Logic.{◌⊎◌, inl, inr}
use mathlib.Core.Bool.{true, false, not, true≢false}
use mathlib.Core.List.{List}
use Prim.Native.Nat.{ℕ, ◌+◌, ◌≤◌}
use native.Mathlib.Nat.{le_refl}
use native.Mathlib.Omega.{arith}
use borrow.Author.Tests.{eq-eqb}
use Rattle.octets.specs.Octets.{same}
use Rattle.octets.proofs.Booleans.{or_cases}
use Rattle.octets.proofs.Same.{same-says, same_self}
use Rattle.signers.specs.Sets.{indicator}
use Rattle.refusal.specs.Outcome.{Outcome, refused, done, after}
use Rattle.protocol.specs.Update as protocol
use Rattle.protocol.specs.Update.{Note, Record, Empty, Held, Delivered, is_empty, Update, delivered}
use Rattle.protocol.specs.Trace as trace
use Rattle.protocol.specs.Trace.{Trace, ◌then◌calls◌}
use Rattle.protocol.specs.OneSlot.{Act, sends, sends_this, delivers, delivers_this, broadcasts, current_record, ever, times}
use Rattle.protocol.proofs.UpdateCases.{UpdateCase, refusing, broadcasting, signing, signing-and-delivering, joining, completing, replacing, noting}
use Rattle.protocol.proofs.TraceInduction.{result_delivers, NodeView, trace-induction}

-- the node has delivered nothing, and sent at most k bundles
pub record NotDelivered (q : ℕ) (trace : Trace Act) (u k : ℕ) : Type 0 where
  pub none : (payload : List ℕ) → ever q (delivers_this q payload) trace u ≡ false
  pub deliveries : times q (delivers q) trace u ≡ 0
  pub sendings : times q (sends q) trace u ≤ k

-- the node has delivered this payload and no other, once, and sent it with these signers
pub record HasDelivered (q : ℕ) (trace : Trace Act) (u signers : ℕ) (payload : List ℕ) : Type 0 where
  pub sent : ever q (sends_this q signers payload) trace u ≡ true
  pub delivered : ever q (delivers_this q payload) trace u ≡ true
  pub only : (other : List ℕ) → ever q (delivers_this q other) trace u ≡ true → other ≡ payload
  pub deliveries : times q (delivers q) trace u ≤ 1
  pub sendings : times q (sends q) trace u ≤ 2

-- what has happened in each state of the record
abbrev pub SentSoFar : (q : ℕ) (trace : Trace Act) (u : ℕ) (r : Record) → Type 0
SentSoFar q trace u Empty = NotDelivered q trace u 0
SentSoFar q trace u (Held signers payload note) = NotDelivered q trace u 1
SentSoFar q trace u (Delivered signers payload note) = HasDelivered q trace u signers payload

module _ (q : ℕ) (earlier : Trace Act) (u caller : ℕ) (act : Act) (r : Record) where
  -- an update that delivers nothing
  not-delivered-step : (o : Outcome Update) (k m : ℕ) → NodeView q earlier u caller act r o
      → ((payload : List ℕ) → after o (result_delivers payload) false ≡ false)
      → after o (λ result. protocol.delivers result.answer) false ≡ false
      → indicator (after o (λ result. protocol.sends result.answer) false) + k ≤ m
      → NotDelivered q earlier u k → NotDelivered q (earlier then caller calls act) u m
  not-delivered-step o k m view not-this not-any few before =
      record {
        none = λ payload. view.delivered payload ∙ rw (not-this payload) (before.none payload);
        deliveries = view.deliveries ∙ rw not-any (omega (arith, before.deliveries));
        sendings = omega (arith, view.sendings, before.sendings);
      }

  -- the update that delivers
  delivered-step : (signers : ℕ) (payload : List ℕ) (note : Note) (k : ℕ) → k ≤ 1
      → NodeView q earlier u caller act r (done (record { answer = delivered; new_record = Delivered signers payload note }))
      → NotDelivered q earlier u k → HasDelivered q (earlier then caller calls act) u signers payload
  delivered-step signers payload note k few view before =
      record {
        sent = view.sent signers payload ∙ rw (eq-eqb signers signers refl, same_self payload);
        delivered = view.delivered payload ∙ rw (same_self payload);
        only = λ other e. this other (or_cases (same payload other) _ (sym (view.delivered other) ∙ e));
        deliveries = omega (arith, view.deliveries, before.deliveries);
        sendings = omega (arith, view.sendings, before.sendings);
      }
    where
      this : (other : List ℕ) → (same payload other ≡ true) ⊎ (ever q (delivers_this q other) earlier u ≡ true) → other ≡ payload
      this other (inl e) = sym (same-says payload other e)
      this other (inr e) = absurd (true≢false (sym e ∙ before.none other))

-- an act that is refused
sent-refused : (q : ℕ) (earlier : Trace Act) (u caller : ℕ) (act : Act) (number : ℕ) (r : Record)
    → NodeView q earlier u caller act r (refused number) → SentSoFar q earlier u r → SentSoFar q (earlier then caller calls act) u r
sent-refused q earlier u caller act number Empty view before =
    not-delivered-step q earlier u caller act Empty (refused number) 0 0 view (λ p. refl) refl (le_refl 0) before
sent-refused q earlier u caller act number (Held signers payload note) view before =
    not-delivered-step q earlier u caller act (Held signers payload note) (refused number) 1 1 view (λ p. refl) refl (le_refl 1) before
sent-refused q earlier u caller act number (Delivered signers payload note) view before =
    record {
      sent = view.sent signers payload ∙ before.sent;
      delivered = view.delivered payload ∙ before.delivered;
      only = λ other e. before.only other (sym (view.delivered other) ∙ e);
      deliveries = omega (arith, view.deliveries, before.deliveries);
      sendings = omega (arith, view.sendings, before.sendings);
    }

-- it holds after one act more
sent-step : (q : ℕ) (earlier : Trace Act) (u caller : ℕ) (act : Act) (r : Record) (o : Outcome Update)
    → UpdateCase q u caller act r o → NodeView q earlier u caller act r o
    → SentSoFar q earlier u r → SentSoFar q (earlier then caller calls act) u (after o (λ result. result.new_record) r)
sent-step q earlier u caller act r o (refusing {number = number} why) view before = sent-refused q earlier u caller act number r view before
sent-step q earlier u caller act r o (broadcasting own) view before =
    not-delivered-step q earlier u caller act r o 0 1 view (λ p. refl) refl (le_refl 1) before
sent-step q earlier u caller act r o (signing absent few) view before =
    not-delivered-step q earlier u caller act r o 0 1 view (λ p. refl) refl (le_refl 1) before
sent-step q earlier u caller act r o (joining few) view before =
    not-delivered-step q earlier u caller act r o 1 1 view (λ p. refl) refl (le_refl 1) before
sent-step q earlier u caller act r o (noting other few known) view before =
    not-delivered-step q earlier u caller act r o 1 1 view (λ p. refl) refl (le_refl 1) before
sent-step q earlier u caller act r o (signing-and-delivering absent enough) view before =
    delivered-step q earlier u caller act r _ _ _ 0 (omega arith) view before
sent-step q earlier u caller act r o (completing enough) view before =
    delivered-step q earlier u caller act r _ _ _ 1 (le_refl 1) view before
sent-step q earlier u caller act r o (replacing other absent enough) view before =
    delivered-step q earlier u caller act r _ _ _ 1 (le_refl 1) view before

-- so it holds of every node after every trace
pub sent-so-far : (q : ℕ) (trace : Trace Act) (u : ℕ) → SentSoFar q trace u (current_record q trace u)
unfolding trace.ever trace.times
sent-so-far q = trace-induction q (SentSoFar q) (λ u. record { none = λ payload. refl; deliveries = refl; sendings = le_refl 0 }) (sent-step q)

-- ---- broadcasting needs an empty record, and no update leaves one

-- a node has broadcast nothing while its record is empty, and at most once after that
abbrev AnnouncedSoFar : (q : ℕ) (trace : Trace Act) (u : ℕ) (r : Record) → Type 0
AnnouncedSoFar q trace u r = times q (broadcasts q) trace u ≤ indicator (not (is_empty r))

announced-step : (q : ℕ) (earlier : Trace Act) (u caller : ℕ) (act : Act) (r : Record) (o : Outcome Update)
    → UpdateCase q u caller act r o → NodeView q earlier u caller act r o
    → AnnouncedSoFar q earlier u r → AnnouncedSoFar q (earlier then caller calls act) u (after o (λ result. result.new_record) r)
announced-step q earlier u caller act r o (refusing why) view before = omega (arith, view.announcements, before)
announced-step q earlier u caller act r o (broadcasting own) view before = omega (arith, view.announcements, before)
announced-step q earlier u caller act r o (signing absent few) view before = omega (arith, view.announcements, before)
announced-step q earlier u caller act r o (signing-and-delivering absent enough) view before = omega (arith, view.announcements, before)
announced-step q earlier u caller act r o (joining few) view before = omega (arith, view.announcements, before)
announced-step q earlier u caller act r o (completing enough) view before = omega (arith, view.announcements, before)
announced-step q earlier u caller act r o (replacing other absent enough) view before = omega (arith, view.announcements, before)
announced-step q earlier u caller act r o (noting other few known) view before = omega (arith, view.announcements, before)

-- so it holds after every trace
announced-so-far : (q : ℕ) (trace : Trace Act) (u : ℕ) → AnnouncedSoFar q trace u (current_record q trace u)
unfolding trace.times
announced-so-far q = trace-induction q (AnnouncedSoFar q) (λ u. le_refl 0) (announced-step q)

-- ---- what follows for a node

module _ (q : ℕ) (trace : Trace Act) (u : ℕ) where
  -- it does not deliver twice,
  pub delivers_once : times q (delivers q) trace u ≤ 1
  delivers_once = go (current_record q trace u) (sent-so-far q trace u)
    where
      go : (r : Record) → SentSoFar q trace u r → times q (delivers q) trace u ≤ 1
      go Empty t = omega (arith, t.deliveries)
      go (Held signers payload note) t = omega (arith, t.deliveries)
      go (Delivered signers payload note) t = t.deliveries

  -- it sends at most two bundles,
  pub sends_at_most_twice : times q (sends q) trace u ≤ 2
  sends_at_most_twice = go (current_record q trace u) (sent-so-far q trace u)
    where
      go : (r : Record) → SentSoFar q trace u r → times q (sends q) trace u ≤ 2
      go Empty t = omega (arith, t.sendings)
      go (Held signers payload note) t = omega (arith, t.sendings)
      go (Delivered signers payload note) t = t.sendings

  -- and it does not broadcast twice
  pub broadcasts_once : times q (broadcasts q) trace u ≤ 1
  broadcasts_once = go (current_record q trace u) (announced-so-far q trace u)
    where
      go : (r : Record) → AnnouncedSoFar q trace u r → times q (broadcasts q) trace u ≤ 1
      go Empty few = omega arith
      go (Held signers payload note) few = few
      go (Delivered signers payload note) few = few

  -- if it has delivered a payload, its record is delivered, with that payload
  pub delivered-record : (payload : List ℕ) → ever q (delivers_this q payload) trace u ≡ true
      → (signers : ℕ) × (note : Note) × (current_record q trace u ≡ Delivered signers payload note) × (ever q (sends_this q signers payload) trace u ≡ true)
  delivered-record payload e = go (current_record q trace u) refl (sent-so-far q trace u)
    where
      go : (r : Record) → current_record q trace u ≡ r → SentSoFar q trace u r
          → (signers : ℕ) × (note : Note) × (current_record q trace u ≡ Delivered signers payload note) × (ever q (sends_this q signers payload) trace u ≡ true)
      go Empty is t = absurd (true≢false (sym e ∙ t.none payload))
      go (Held signers other note) is t = absurd (true≢false (sym e ∙ t.none payload))
      go (Delivered signers other note) is t =
          let this : payload ≡ other = t.only payload e in
          (signers, note, is ∙ ap (λ (x : List ℕ). Delivered signers x note) (sym this), rw this t.sent)

  -- and back
  pub record-delivered : (signers : ℕ) (payload : List ℕ) (note : Note) → current_record q trace u ≡ Delivered signers payload note
      → ever q (delivers_this q payload) trace u ≡ true
  record-delivered signers payload note is = (rw is at (sent-so-far q trace u)).delivered
