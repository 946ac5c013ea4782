-- A run is a list of calls as RULES section 14 has them: the laws of specs/Calls.antt. A step's answer is read off the outcome of its call; after the openings
-- every node was called, so that an opening comes first and only there.
-- Assumes nothing.
use mathlib.Core.Path.{◌≡◌, refl, sym, ap, ◌∙◌}
use mathlib.Core.Bool.{Bool, true, false, not, cond, ◌&&◌, ◌||◌, true≢false}
use mathlib.Core.List.{List, [], ◌∷◌}
use Prim.Native.Nat.{ℕ, zero, suc, ◌≤◌, ◌<◌}
use native.Mathlib.Nat.{le_refl, zero-add}
use native.Mathlib.Omega.{arith}
use lib.Arith.{lt_of_le-ne}
use lib.Dec.{eqb}
use lib.ListN.{length, length-replicate}
use borrow.Author.Tests.{eqb-false, ne_eqb}
use Rattle.std.specs.Prelude.{Option, Some, None}
use Rattle.octets.specs.Octets.{same, bytes_of}
use Rattle.signers.specs.Sets.{NodeSet}
use Rattle.refusal.specs.Outcome.{Outcome, refused, done}
use Rattle.refusal.proofs.Reasons.{refused-not-done}
use Rattle.payload.specs.declared.Payload.{Payload}
use Rattle.payload.specs.Payload.{bytes}
use Rattle.config.specs.declared.Config.{Config}
use Rattle.config.specs.Config.{quorum, records_size, with_own, slot_of_day}
use Rattle.bundle.specs.declared.Header.{Header}
use Rattle.bundle.specs.Bundle.{bundle_of, read, slot_in, slot_of, payload_part}
use Rattle.bundle.specs.Bundle as bundle
use Rattle.protocol.specs.Update.{Record, Update, update_result}
use Rattle.protocol.proofs.UpdateCases.{result-answer}
use Rattle.protocol.specs.Trace.{Trace, start, ◌then◌calls◌, state}
use Rattle.protocol.specs.Trace as trace
use Rattle.protocol.proofs.TraceLaws.{ever-grows}
use Rattle.protocol.proofs.WellFormed.{update-done}
use Rattle.record.specs.Record.{decoded}
use Rattle.calls.specs.Records.{record_at, own_slot}
use Rattle.calls.specs.Broadcast.{broadcast}
use Rattle.calls.specs.Receive.{receive, reported}
use Rattle.calls.proofs.Refusals.{receive-unread}
use Rattle.calls.proofs.ReceiveFacts.{read-says, receive-done}
use Rattle.system.specs.Demand3.{Call, Open, System, correct, in_slot, records_after, opens, announces_in, delivers_in, delivers, sends, buffer, ever, times, called, Lawful, config_at}
use Rattle.system.proofs.Simulation.{correct-below}
use Rattle.system.specs.Demand3 as demand
use Rattle.row.specs.declared.StepRow.{StepRow}
use Rattle.row.specs.declared.Step.{Step}
use Rattle.row.specs.declared.Step.TheVariants.{Broadcast, Receive}
use Rattle.row.specs.Row.{row_in}
use Rattle.row.proofs.RowNodes.{NodeBelow, row-node-below}
use Rattle.step.specs.Step.{step_bundle, blank_out, call_of, answer_of}
use Rattle.config.specs.declared.Slot.{Slot}
use Rattle.config.proofs.Laws.{same-slot-self}
use Rattle.run_trace.specs.RunTrace.{system_of, openings, with_row, with_rows, calls_of}
use Rattle.run_trace.specs.Calls.{is_announced, IsCall, RowIsCall, UnreadIsNone, Sized, RunRecords, calls_at, CallsAtSame, EachOpensFirstAndOnce, AllUnforged, RunOpensFirst, RunLawful}
use Rattle.run_trace.proofs.Openings.{step-leaves, opened-buffer}

-- ---- a step is a call

-- an update never answers announced
update-not-announced : (own q signers : ℕ) (payload : List ℕ) (r : Record) → is_announced (update_result own q signers payload r).answer ≡ false
update-not-announced = result-answer (λ answer. is_announced answer ≡ false) refl refl refl refl

-- a bundle that is received
module _ (w : Config) (given records out : List ℕ) where
  -- it was read,
  receive-reads : (result : Update) → receive w given records out ≡ done result → (h : Header) × (read w given ≡ done h)
  receive-reads result e = go (read w given) refl
    where
      go : (o : Outcome Header) → read w given ≡ o → (h : Header) × (read w given ≡ done h)
      go (refused number) f = absurd (refused-not-done number result (sym (receive-unread w given records out number f) ∙ e))
      go (done h) f = (h, f)

  -- and it is not an announcement
  receive-not-announced : (result : Update) → receive w given records out ≡ done result → is_announced result.answer ≡ false
  receive-not-announced result e =
      let (h, f) = receive-reads result e in
      let taken = (receive-done w given records out h f result e).2 in
      sym (ap (λ (x : Update). is_announced x.answer)
      (update-done w.own (quorum w) h.signers (bundle.payload_part w given) (decoded (record_at w (slot_of h) records)) result taken).1)
      ∙ update-not-announced w.own (quorum w) h.signers (bundle.payload_part w given) (decoded (record_at w (slot_of h) records))

-- the bundle of a row names the row's slot, where its day is the configuration's, and has the row's payload
module _ (config : Config) (from nth signers : ℕ) (p : Payload) where
  given-slot : (slot_in (step_bundle config from nth signers p)).day ≡ config.day → slot_in (step_bundle config from nth signers p) ≡ slot_of_day config from nth
  unfolding slot_in bundle_of bytes_of slot_of_day
  given-slot today = ap {B = Slot} (λ (d : ℕ). record { day = d; sender = from; seq = nth }) today

  given-payload : bundle.payload_in (step_bundle config from nth signers p) ≡ bytes p
  unfolding bundle_of bytes_of bytes
  given-payload = refl

-- broadcasting
module _ (s : System) (u : ℕ) (p : Payload) (records : List ℕ) where
  broadcast-is-call : IsCall s u (Broadcast p) records
  unfolding answer_of call_of config_at sends announces_in demand.announces delivers_in delivers
  broadcast-is-call = go (broadcast (config_at s u) (bytes p) records blank_out) refl
    where
      go : (o : Outcome ℕ) → broadcast (config_at s u) (bytes p) records blank_out ≡ o → IsCall s u (Broadcast p) records
      go (refused number) e =
          record {
            leaves = step-leaves s u (Broadcast p) records;
            sent = rw e;
            announced = λ yes. absurd (true≢false (sym (rw e at yes)));
            announcing = λ slot yes. absurd (true≢false (sym (rw e at yes)));
            announced_this = λ slot payload. refl;
            delivered = λ slot. rw e;
            delivered_this = λ slot payload. refl;
          }
      go (done k) e =
          record {
            leaves = step-leaves s u (Broadcast p) records;
            sent = rw e;
            announced = λ yes. (own_slot (config_at s u) k, rw e (same-slot-self (own_slot (config_at s u) k)));
            announcing = λ slot yes. rw e;
            announced_this = λ slot payload. refl;
            delivered = λ slot. rw e;
            delivered_this = λ slot payload. refl;
          }

-- receiving
module _ (s : System) (u from nth signers : ℕ) (p : Payload) (records : List ℕ) where
  abbrev given : List ℕ
  given = step_bundle s.shared from nth signers p

  receive-is-call : IsCall s u (Receive from nth signers p) records
  unfolding answer_of reported call_of with_own config_at sends announces_in demand.announces delivers_in delivers slot_of_day in_slot
  receive-is-call = go (receive (config_at s u) given records blank_out) refl
    where
      this : (slot : Slot) (payload : List ℕ)
          → (delivers_in s slot u (call_of s.shared (Receive from nth signers p)) records && same (bundle.payload_in given) payload)
          ≡ (delivers_in s slot u (call_of s.shared (Receive from nth signers p)) records && same (bytes p) payload)
      this slot payload =
          ap (λ (bytes : List ℕ). delivers_in s slot u (call_of s.shared (Receive from nth signers p)) records && same bytes payload)
          (given-payload s.shared from nth signers p)

      go : (o : Outcome Update) → receive (config_at s u) given records blank_out ≡ o → IsCall s u (Receive from nth signers p) records
      go (refused number) e =
          record {
            leaves = step-leaves s u (Receive from nth signers p) records;
            sent = rw e;
            announced = λ yes. absurd (true≢false (sym (rw e at yes)));
            announcing = λ slot yes. absurd (true≢false (sym yes));
            announced_this = λ slot payload. refl;
            delivered = λ slot. rw e;
            delivered_this = this;
          }
      go (done result) e =
          let (h, f) = receive-reads (config_at s u) given records blank_out result e in
          let ok = read-says (config_at s u) given h f in
          let today : (slot_in given).day ≡ s.shared.day = ap (λ (x : Slot). x.day) ok.slot-named ∙ ok.today in
          record {
            leaves = step-leaves s u (Receive from nth signers p) records;
            sent = rw e;
            announced = λ yes. absurd (true≢false (sym (rw e at yes) ∙ receive-not-announced (config_at s u) given records blank_out result e));
            announcing = λ slot yes. absurd (true≢false (sym yes));
            announced_this = λ slot payload. refl;
            delivered = λ slot. rw (e, given-slot s.shared from nth signers p today);
            delivered_this = this;
          }

pub row-is-call : RowIsCall
row-is-call s u (Broadcast p) records = broadcast-is-call s u p records
row-is-call s u (Receive from nth signers p) records = receive-is-call s u from nth signers p records

pub unread-is-none : UnreadIsNone
unfolding with_rows
unread-is-none w before line others e = rw e

-- ---- any records before the opening

-- a call leaves the same whatever else the system has
after-shared : (s : System) (u : ℕ) (made : Call) (records : List ℕ) → records_after s u made records ≡ records_after (system_of s.shared) u made records
unfolding records_after config_at system_of
after-shared s u Open records = refl
after-shared s u (demand.Broadcast payload out) records = refl
after-shared s u (demand.Receive given out) records = refl

-- two systems with the same records of a node before some rows have the same after them
rows_same : (s : System) (list : Trace Call) (u : ℕ) → buffer s list u ≡ buffer (system_of s.shared) list u → (rows : List (List ℕ))
    → buffer s (with_rows s.shared list rows) u ≡ buffer (system_of s.shared) (with_rows s.shared list rows) u
unfolding with_rows state
rows_same s list u e [] = e
rows_same s list u e (line ∷ others) =
    rows_same s (with_row s.shared list (row_in s.shared.n line)) u (row_same (row_in s.shared.n line)) others
  where
    other : System
    other = system_of s.shared

    row_same : (row : Option StepRow) → buffer s (with_row s.shared list row) u ≡ buffer other (with_row s.shared list row) u
    row_same None = e
    row_same (Some row) =
        ap (λ (records : List ℕ). cond (eqb u row.node) (records_after s u (call_of s.shared row.step) records) records) e
        ∙ ap (λ (records : List ℕ). cond (eqb u row.node) records (buffer other list u)) (after-shared s u (call_of s.shared row.step) (buffer other list u))

pub run-records : RunRecords
unfolding calls_of system_of
run-records s rows g sized u known =
    rows_same s (openings s.shared s.shared.n) u
    (opened-buffer s g sized s.shared.n u known (le_refl s.shared.n)
    ∙ sym (opened-buffer (system_of s.shared) g (λ v here. length-replicate {A = ℕ} (records_size s.shared) 0) s.shared.n u known (le_refl s.shared.n)))
    rows

-- ---- the calls at the nodes of a set

-- two lists come to the same at a node
abbrev Alike : System → ℕ → Trace Call → Trace Call → Type 0
Alike s u list whole =
    (buffer s list u ≡ buffer s whole u)
    × ((test : ℕ → Call → List ℕ → Bool) → ever s test list u ≡ ever s test whole u)
    × ((test : ℕ → Call → List ℕ → Bool) → times s test list u ≡ times s test whole u)

pub calls-at-same : CallsAtSame
unfolding calls_at state trace.ever trace.times
calls-at-same s set start u here = (refl, (λ test. refl), λ test. refl)
calls-at-same s set (earlier then v calls made) u here = go (set v) refl (calls-at-same s set earlier u here)
  where
    go : (b : Bool) → set v ≡ b → Alike s u (calls_at set earlier) earlier
        → Alike s u (cond b (calls_at set earlier then v calls made) (calls_at set earlier)) (earlier then v calls made)
    go true e (records, evers, number) = (rw records, (λ test. rw (records, evers test)), λ test. rw (records, number test))
    go false e (records, evers, number) =
        let other = ne_eqb u v (λ same. true≢false (sym here ∙ ap set same ∙ e)) in
        (rw other records, (λ test. rw other (evers test)), λ test. rw (other, zero-add) (number test))

-- ---- opening first

module _ (s : System) where
  -- after k openings the nodes below k were called, and no others
  uncalled : (k u : ℕ) → k ≤ u → called s (openings s.shared k) u ≡ false
  unfolding openings trace.ever
  uncalled zero u h = refl
  uncalled (suc k) u h = rw (ne_eqb u k (λ same. omega arith), uncalled k u (omega arith))

  was_called : (k u : ℕ) → u < k → called s (openings s.shared k) u ≡ true
  unfolding openings trace.ever
  was_called zero u h = absurd (omega arith)
  was_called (suc k) u h = go (eqb u k) refl (was_called k u)
    where
      go : (b : Bool) → eqb u k ≡ b → (u < k → called s (openings s.shared k) u ≡ true) → ((b && true) || called s (openings s.shared k) u) ≡ true
      go true e earlier = refl
      go false e earlier = earlier (lt_of_le-ne (omega arith) (eqb-false u k e))

  openings-first : (k : ℕ) → EachOpensFirstAndOnce s (openings s.shared k)
  unfolding openings opens
  openings-first zero = tt
  openings-first (suc k) = (openings-first k, sym (ap not (uncalled k k (le_refl k))))

  -- a step opens nothing
  step-opens-not : (u : ℕ) (step : Step) (records : List ℕ) → opens s u (call_of s.shared step) records ≡ false
  unfolding opens call_of
  step-opens-not u (Broadcast p) records = refl
  step-opens-not u (Receive from nth signers p) records = refl

  -- every call is at a node of the table
  abbrev pub Within : Trace Call → Type 0
  Within start = Unit
  Within (earlier then u calls made) = Within earlier × (u < s.shared.n)

  openings-within : (k : ℕ) → k ≤ s.shared.n → Within (openings s.shared k)
  unfolding openings
  openings-within zero most = tt
  openings-within (suc k) most = (openings-within k (omega arith), most)

  -- a list in which every node of the table was called, and opened first
  pub record Begun (list : Trace Call) : Type 0 where
    pub first : EachOpensFirstAndOnce s list
    pub within : Within list
    pub everywhere : (u : ℕ) → u < s.shared.n → called s list u ≡ true

  -- rows after it are at such nodes
  row-begun : (list : Trace Call) → Begun list → (row : Option StepRow) → NodeBelow s.shared.n row → Begun (with_row s.shared list row)
  row-begun list begun None known = begun
  row-begun list begun (Some row) known =
      record {
        first = (begun.first, step-opens-not row.node row.step (buffer s list row.node) ∙ sym (ap not (begun.everywhere row.node known)));
        within = (begun.within, known);
        everywhere = λ u here.
            ever-grows s.buffers (records_after s) (λ node made records. true) list u row.node (call_of s.shared row.step) (begun.everywhere u here);
      }

  rows-begun : (list : Trace Call) → Begun list → (rows : List (List ℕ)) → Begun (with_rows s.shared list rows)
  unfolding with_rows
  rows-begun list begun [] = begun
  rows-begun list begun (line ∷ others) =
      rows-begun (with_row s.shared list (row_in s.shared.n line))
      (row-begun list begun (row_in s.shared.n line) (row-node-below s.shared.n line)) others

  -- so a run is such a list
  pub run-begun : (rows : List (List ℕ)) → Begun (calls_of s.shared rows)
  unfolding calls_of
  run-begun rows =
      rows-begun (openings s.shared s.shared.n)
      (record {
        first = openings-first s.shared.n;
        within = openings-within s.shared.n (le_refl s.shared.n);
        everywhere = was_called s.shared.n;
      })
      rows

  -- a list that opens first does so at the nodes of any set
  set_first : (set : NodeSet) (list : Trace Call) → EachOpensFirstAndOnce s list → EachOpensFirstAndOnce s (calls_at set list)
  unfolding calls_at
  set_first set start first = tt
  set_first set (earlier then v calls made) first = go (set v) refl (set_first set earlier first.0)
    where
      go : (b : Bool) → set v ≡ b → EachOpensFirstAndOnce s (calls_at set earlier)
          → EachOpensFirstAndOnce s (cond b (calls_at set earlier then v calls made) (calls_at set earlier))
      go true e below =
          let (records, evers, number) = calls-at-same s set earlier v e in
          (below, rw (records, evers (λ node made records. true)) first.1)
      go false e below = below

  -- a list of calls at correct nodes that opens first and forges nothing is lawful
  first-lawful : Sized s → (list : Trace Call) → EachOpensFirstAndOnce s (calls_at (correct s) list) → AllUnforged s (calls_at (correct s) list)
      → Lawful s (calls_at (correct s) list)
  unfolding calls_at config_at with_own records_size
  first-lawful sized start first unforged = tt
  first-lawful sized (earlier then v calls made) first unforged = go (correct s v) refl (first-lawful sized earlier) first unforged
    where
      size-at : correct s v ≡ true → length (s.buffers v) ≡ records_size (config_at s v)
      size-at fine = sized v (correct-below s v fine)

      go : (b : Bool) → correct s v ≡ b
          → (EachOpensFirstAndOnce s (calls_at (correct s) earlier) → AllUnforged s (calls_at (correct s) earlier) → Lawful s (calls_at (correct s) earlier))
          → EachOpensFirstAndOnce s (cond b (calls_at (correct s) earlier then v calls made) (calls_at (correct s) earlier))
          → AllUnforged s (cond b (calls_at (correct s) earlier then v calls made) (calls_at (correct s) earlier))
          → Lawful s (cond b (calls_at (correct s) earlier then v calls made) (calls_at (correct s) earlier))
      go true e below (firsts, first) (fines, fine) = (below firsts fines, e, size-at e, first, fine)
      go false e below first fine = below first fine

pub run-opens-first : RunOpensFirst
run-opens-first s rows = ((run-begun s rows).first, λ set. set_first s set (calls_of s.shared rows) (run-begun s rows).first)

pub run-lawful : RunLawful
run-lawful s rows sized unforged =
    first-lawful s sized (calls_of s.shared rows) (set_first s (correct s) (calls_of s.shared rows) (run-begun s rows).first) unforged
