-- A list of calls and what it comes to in one slot: after every lawful list the slot's bytes at each node that was called are the record that the acts
-- leave, each call matches its act, and the acts are lawful on values. By induction on the list.
-- Assumes nothing.
use mathlib.Core.Path.{◌≡◌, refl, sym, ap, ◌∙◌, subst}
use mathlib.Core.Option.{Option, none, some}
use mathlib.Core.Bool.{Bool, true, false, cond, not, true≢false}
use mathlib.Core.List.{List}
use Prim.Native.Nat.{ℕ, ◌<◌, ◌^◌}
use lib.Dec.{eqb}
use lib.ListN.{length}
use borrow.Author.Tests.{eqb-true, not-true, not-false}
use Rattle.signers.specs.Signers.{member}
use Rattle.config.specs.declared.Slot.{Slot}
use Rattle.config.specs.Config.{with_own, good, slot_of_day, records_size}
use Rattle.bundle.specs.Bundle.{payload_part}
use Rattle.protocol.specs.Update.{Record, Empty}
use Rattle.protocol.specs.Trace.{Trace, start, ◌then◌calls◌, state}
use Rattle.protocol.specs.Trace as trace
use Rattle.protocol.specs.OneSlot as one-slot
use Rattle.protocol.specs.OneSlot.{Act}
use Rattle.protocol.proofs.CorrectNodes as nodes
use Rattle.calls.proofs.ReceiveFacts.{read-says}
use Rattle.system.specs.Demand3.{Call, Open, Broadcast, Receive, System, config_at, correct, opens, records_after, signs, buffer, ever, called, Unforged, Lawful}
use Rattle.system.specs.Order.{InOrder, AssumedOrderly}
use Rattle.system.proofs.Projection as projection
use Rattle.system.proofs.Projection.{project, Matched, state-project, ever-forth}
use Rattle.system.proofs.CallInSlot.{act_in, CallCase, call-case, opening, broadcast-here, broadcast-elsewhere, broadcast-refused, received-here, received-elsewhere, received-no-room, received-unread}
use Rattle.system.proofs.CommonConfig.{quorum_of, InRange}
use Rattle.system.proofs.CallMatchesAct.{HoldsRecord, FindsRecord, MatchesAct, call-matches-act}
use Rattle.system.proofs.CallTests.{signs-forth}

-- a correct node is one of the n
pub correct-below : (s : System) (u : ℕ) → correct s u ≡ true → u < s.shared.n
unfolding correct
correct-below s u = nodes.correct-below s.shared.n s.faulty u

pub lawful-order : (s : System) (list : Trace Call) → Lawful s list → InOrder s list
lawful-order s start lawful = tt
lawful-order s (earlier then u calls call) lawful =
    (lawful-order s earlier lawful.0, correct-below s u lawful.1, lawful.2, lawful.3)

pub assumed-orderly : AssumedOrderly
assumed-orderly s list assumed =
    record { configured = assumed.configured; dated = assumed.dated; ordered = lawful-order s list assumed.lawful }

module _ (s : System) (slot : Slot) where
  -- the acts in the slot, and the record that they leave at a node
  abbrev pub acts : (list : Trace Call) → Trace Act
  acts = project s.buffers (records_after s) (λ node. Empty) (one-slot.record_after (quorum_of s)) (act_in s slot)

  abbrev pub slot_record : (list : Trace Call) (node : ℕ) → Record
  slot_record list = one-slot.current_record (quorum_of s) (acts list)

  -- every call matches its act
  abbrev pub AllMatched : (list : Trace Call) → Type 0
  AllMatched = Matched s.buffers (records_after s) (λ node. Empty) (one-slot.record_after (quorum_of s)) (act_in s slot) (MatchesAct s slot)

  -- what a node keeps: once it was called, the record in its bytes; before that, none, and its first buffer
  record KeepsRecord (list : Trace Call) (u : ℕ) : Type 0 where
    opened : called s list u ≡ true → HoldsRecord s slot u (buffer s list u) (slot_record list u)
    unopened : called s list u ≡ false → slot_record list u ≡ Empty
    untouched : called s list u ≡ false → buffer s list u ≡ s.buffers u

  keeps-start : (u : ℕ) → KeepsRecord start u
  unfolding trace.ever state project
  keeps-start u = record { opened = λ e. absurd (true≢false (sym e)); unopened = λ e. refl; untouched = λ e. refl }

  -- the record that the act leaves; without an act, the one that was there
  abbrev record_left : (node : ℕ) (made : Option Act) (r : Record) → Record
  record_left = projection.record_left s.buffers (records_after s) (λ node. Empty) (one-slot.record_after (quorum_of s)) (act_in s slot)

  -- a call that matches its act leaves that record in the bytes
  match-left : (u : ℕ) (call : Call) (records : List ℕ) (r : Record) (m : Option Act) → MatchesAct s slot u call records r m
      → HoldsRecord s slot u (records_after s u call records) (record_left u m r)
  match-left u call records r none h = h.left
  match-left u call records r (some a) h = h.left

  -- after one call more: at its node, and at any other
  module _ (earlier : Trace Call) (v : ℕ) (call : Call) where
    keeps-step : ((u : ℕ) → KeepsRecord earlier u)
        → MatchesAct s slot v call (buffer s earlier v) (slot_record earlier v) (act_in s slot v call (buffer s earlier v))
        → (u : ℕ) → KeepsRecord (earlier then v calls call) u
    unfolding trace.ever state
    keeps-step before m u = go (eqb u v) refl
      where
        record-left-is : slot_record (earlier then v calls call) u
            ≡ cond (eqb u v) (record_left u (act_in s slot v call (buffer s earlier v)) (slot_record earlier u)) (slot_record earlier u)
        record-left-is = state-project s.buffers (records_after s) (λ node. Empty) (one-slot.record_after (quorum_of s)) (act_in s slot) earlier v call u

        there : eqb u v ≡ true → HoldsRecord s slot u (records_after s u call (buffer s earlier u))
            (record_left u (act_in s slot v call (buffer s earlier v)) (slot_record earlier u))
        there e =
            subst
            (λ (x : ℕ). HoldsRecord s slot x (records_after s x call (buffer s earlier x))
            (record_left x (act_in s slot v call (buffer s earlier v)) (slot_record earlier x)))
            (sym (eqb-true u v e))
            (match-left v call (buffer s earlier v) (slot_record earlier v) (act_in s slot v call (buffer s earlier v)) m)

        go : (b : Bool) → eqb u v ≡ b → KeepsRecord (earlier then v calls call) u
        go true e =
            record {
              opened = λ x. rw (record-left-is, e) (there e);
              unopened = λ x. absurd (true≢false (rw e at x));
              untouched = λ x. absurd (true≢false (rw e at x));
            }
        go false e =
            record {
              opened = λ x. rw (record-left-is, e) ((before u).opened (rw e at x));
              unopened = λ x. rw (record-left-is, e) ((before u).unopened (rw e at x));
              untouched = λ x. rw e ((before u).untouched (rw e at x));
            }

  -- a lawful call finds the slot as the node keeps it
  finds-record : (earlier : Trace Call) (v : ℕ) (call : Call) → length (s.buffers v) ≡ records_size (config_at s v)
      → opens s v call (buffer s earlier v) ≡ not (called s earlier v) → KeepsRecord earlier v
      → FindsRecord s slot v call (buffer s earlier v) (slot_record earlier v)
  unfolding opens
  finds-record earlier v Open sized first keeps =
      let uncalled = not-true (called s earlier v) (sym first) in
      (ap length (keeps.untouched uncalled) ∙ sized, keeps.unopened uncalled)
  finds-record earlier v (Broadcast payload out) sized first keeps = keeps.opened (not-false (called s earlier v) (sym first))
  finds-record earlier v (Receive bundle out) sized first keeps = keeps.opened (not-false (called s earlier v) (sym first))

  module _ (range : InRange s slot) (g : good (config_at s 0) ≡ true) (dated : s.shared.day < 2 ^ 32) where
    -- each call of a list in order matches its act
    order-keeps : (list : Trace Call) → InOrder s list → AllMatched list × ((u : ℕ) → KeepsRecord list u)
    order-keeps start order = (tt, keeps-start)
    order-keeps (earlier then v calls call) order =
        let before = order-keeps earlier order.0 in
        let m =
        call-matches-act s g dated v order.1 slot range call (buffer s earlier v) (slot_record earlier v)
        (act_in s slot v call (buffer s earlier v)) (finds-record earlier v call order.2 order.3 (before.1 v))
        (call-case s slot v (buffer s earlier v) call) in
        ((before.0, m), keeps-step earlier v call before.1 m)

    pub order-matched : (list : Trace Call) → InOrder s list → AllMatched list
    order-matched list order = (order-keeps list order).0

    -- and at its end a node that was called has the record in its bytes
    pub order-holds : (list : Trace Call) → InOrder s list → (u : ℕ) → called s list u ≡ true → HoldsRecord s slot u (buffer s list u) (slot_record list u)
    order-holds list order u = ((order-keeps list order).1 u).opened

    -- the acts of a lawful list are lawful: a signature that a call may show was made by a call, and so by an act
    abbrev LawfulActs : (list : Trace Act) → Type 0
    LawfulActs = one-slot.Lawful s.shared.n (quorum_of s) slot.sender s.faulty

    extended-lawful : (earlier : Trace Call) (v : ℕ) (call : Call) (m : Option Act) → LawfulActs (acts earlier) → correct s v ≡ true → Unforged s earlier v call
        → ((payload : List ℕ) (u : ℕ) → ever s (signs s slot payload) earlier u ≡ true
        → one-slot.ever (quorum_of s) (one-slot.signs (quorum_of s) payload) (acts earlier) u ≡ true)
        → CallCase s slot v (buffer s earlier v) call m
        → LawfulActs (projection.extended s.buffers (records_after s) (λ node. Empty) (one-slot.record_after (quorum_of s)) (act_in s slot) (acts earlier) v m)
    unfolding correct slot_of_day config_at with_own
    extended-lawful earlier v call m before fine unforged made opening = before
    extended-lawful earlier v call m before fine unforged made (broadcast-here payload out seq e here) = (before, fine, ap (λ (k : Slot). k.sender) here)
    extended-lawful earlier v call m before fine unforged made (broadcast-elsewhere payload out k e other) = before
    extended-lawful earlier v call m before fine unforged made (broadcast-refused payload out number e) = before
    extended-lawful earlier v call m before fine unforged made (received-here bundle out h e here room) =
        let accepted = read-says (config_at s v) bundle h e in (
          before,
          fine,
          (
            accepted.bundled.known,
            subst (λ (k : Slot). member h.signers k.sender ≡ true) here accepted.bundled.authentic,
            λ u ok signed. made (payload_part (config_at s v) bundle) u
                (subst (λ (k : Slot). ever s (signs s k (payload_part (config_at s v) bundle)) earlier u ≡ true) here (unforged h e u ok signed)),
          ),
        )
    extended-lawful earlier v call m before fine unforged made (received-elsewhere bundle out h e other) = before
    extended-lawful earlier v call m before fine unforged made (received-no-room bundle out h e short) = before
    extended-lawful earlier v call m before fine unforged made (received-unread bundle out number e) = before

    pub lawful-acts : (list : Trace Call) → Lawful s list → LawfulActs (acts list)
    unfolding project
    lawful-acts start lawful = tt
    lawful-acts (earlier then v calls call) lawful =
        extended-lawful earlier v call (act_in s slot v call (buffer s earlier v)) (lawful-acts earlier lawful.0) lawful.1 lawful.4
        (λ payload u.
        ever-forth s.buffers (records_after s) (λ node. Empty) (one-slot.record_after (quorum_of s)) (act_in s slot) (MatchesAct s slot)
        (one-slot.signs (quorum_of s) payload) u (signs s slot payload)
        (λ other records r m h. signs-forth s slot u other records r range g dated payload m h)
        earlier (order-matched earlier (lawful-order s earlier lawful.0)))
        (call-case s slot v (buffer s earlier v) call)
