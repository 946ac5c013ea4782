-- Demand 3, the claim of section 14 of docs/RULES.md: one claim about a whole list of calls, at all correct nodes together. `Assumed` is R14.1 to R14.6, and
-- `Concluded` R14.13 to R14.17; R14.7 to R14.12 say what their words mean. All is read off what the contracts of the calls cite: the answers, and the records
-- and outgoing bytes that a call leaves. A node is named by its own number.
-- It is proved in proofs/Demand3.antt.
-- Assumes nothing.
use Rattle.std.specs.Prelude.{◌≡◌, ◌⊎◌, Bool, true, false, not, ◌&&◌, List, [], ℕ, ◌-◌, ◌≤◌, ◌<◌, ◌^◌, ltb, eqb, length}
use Rattle.octets.specs.Octets.{same}
use Rattle.signers.specs.Sets.{NodeSet, count, both}
use Rattle.signers.specs.Signers.{member}
use Rattle.refusal.specs.Outcome.{done, after}
use Rattle.config.specs.declared.Config.{Config}
use Rattle.config.specs.declared.Slot.{Slot}
use Rattle.config.specs.Config.{with_own, good, same_slot, records_size}
use Rattle.bundle.specs.declared.Header.{Header}
use Rattle.bundle.specs.Bundle.{bundle_size, slot_in, header_in, payload_in, read, payload_part, slot_of}
use Rattle.protocol.specs.Update as answers
use Rattle.protocol.specs.Trace as trace
use Rattle.protocol.specs.Trace.{Trace, start, ◌then◌calls◌}
use Rattle.calls.specs.Records.{own_slot}
use Rattle.calls.specs.Open.{open_records}
use Rattle.calls.specs.Broadcast as calls-broadcast
use Rattle.calls.specs.Receive as calls-receive

-- R14.3: opening a day, broadcasting a payload and receiving a bundle, with what the caller gives for outgoing bytes. The three byte strings may have any
-- content and any length. A preview is no call of the list, and sends nothing (R8.12): specs/Previews.antt.
pub data Call : Type 0 where
  Open : Call
  Broadcast : (payload out : List ℕ) → Call
  Receive : (bundle out : List ℕ) → Call

-- R14.1, R14.2, R14.5: the nodes share one configuration but for their own numbers; the own number that stands in `shared` is not used. Some nodes are
-- faulty. Each node has a buffer of records, with any bytes in it before the day is opened.
pub record System : Type 0 where
  pub shared : Config
  pub faulty : NodeSet
  pub buffers : (node : ℕ) → List ℕ

-- the bundle's bytes name this slot
unfoldable pub in_slot : (slot : Slot) (bundle : List ℕ) → Bool
in_slot slot bundle = same_slot (slot_in bundle) slot

module _ (s : System) where
  -- the configuration at a node
  unfoldable pub config_at : (node : ℕ) → Config
  config_at node = with_own s.shared node

  unfoldable pub correct : NodeSet
  correct node = ltb node s.shared.n && not (s.faulty node)

  -- R14.1: the number of correct nodes, c
  unfoldable pub correct_count : ℕ
  correct_count = s.shared.n - count s.faulty s.shared.n

  -- R14.12: the set has at least c - d correct nodes, each counted once
  abbrev pub NearlyAll : NodeSet → Type 0
  NearlyAll p = correct_count - s.shared.d ≤ count (both correct p) s.shared.n

  -- ---- one call at a node that finds the buffer `records`

  -- the buffer as the call leaves it
  unfoldable pub records_after : (node : ℕ) (call : Call) (records : List ℕ) → List ℕ
  records_after node Open records = open_records (config_at node) records
  records_after node (Broadcast payload out) records = calls-broadcast.broadcast_records (config_at node) payload records out
  records_after node (Receive bundle out) records = calls-receive.receive_records (config_at node) bundle records out

  -- the outgoing bytes as the call leaves them; opening has none
  unfoldable pub out_after : (node : ℕ) (call : Call) (records : List ℕ) → List ℕ
  out_after node Open records = []
  out_after node (Broadcast payload out) records = calls-broadcast.broadcast_out (config_at node) payload records out
  out_after node (Receive bundle out) records = calls-receive.receive_out (config_at node) bundle records out

  unfoldable pub opens : (node : ℕ) (call : Call) (records : List ℕ) → Bool
  opens node Open records = true
  opens node (Broadcast payload out) records = false
  opens node (Receive bundle out) records = false

  -- R14.7: the node announces in a slot when a broadcast is answered announced. The slot is the node's own with the number answered. It announces this
  -- payload there when the payload broadcast is this one.
  unfoldable pub announces_in : (slot : Slot) (node : ℕ) (call : Call) (records : List ℕ) → Bool
  announces_in slot node Open records = false
  announces_in slot node (Broadcast given out) records =
      after (calls-broadcast.broadcast (config_at node) given records out) (λ seq. same_slot (own_slot (config_at node) seq) slot) false
  announces_in slot node (Receive bundle out) records = false

  unfoldable pub announces : (slot : Slot) (payload : List ℕ) (node : ℕ) (call : Call) (records : List ℕ) → Bool
  announces slot payload node Open records = false
  announces slot payload node (Broadcast given out) records = announces_in slot node (Broadcast given out) records && same given payload
  announces slot payload node (Receive bundle out) records = false

  -- R14.8: the node delivers in a slot when receiving a bundle of that slot is answered delivered. It delivers this payload there when the bundle has it.
  unfoldable pub delivers_in : (slot : Slot) (node : ℕ) (call : Call) (records : List ℕ) → Bool
  delivers_in slot node Open records = false
  delivers_in slot node (Broadcast given out) records = false
  delivers_in slot node (Receive bundle out) records =
      after (calls-receive.receive (config_at node) bundle records out) (λ result. answers.delivers result.answer && in_slot slot bundle) false

  unfoldable pub delivers : (slot : Slot) (payload : List ℕ) (node : ℕ) (call : Call) (records : List ℕ) → Bool
  delivers slot payload node Open records = false
  delivers slot payload node (Broadcast given out) records = false
  delivers slot payload node (Receive bundle out) records = delivers_in slot node (Receive bundle out) records && same (payload_in bundle) payload

  -- R14.9: the node sends a bundle when a call is answered announced, signed or delivered. The bundle is the outgoing bytes: these bytes, or some of this slot.
  unfoldable pub sends : (node : ℕ) (call : Call) (records : List ℕ) → Bool
  sends node Open records = false
  sends node (Broadcast given out) records = after (calls-broadcast.broadcast (config_at node) given records out) (λ seq. true) false
  sends node (Receive bundle out) records =
      after (calls-receive.receive (config_at node) bundle records out) (λ result. answers.sends result.answer) false

  unfoldable pub sends_this : (bundle : List ℕ) (node : ℕ) (call : Call) (records : List ℕ) → Bool
  sends_this bundle node call records = sends node call records && same (out_after node call records) bundle

  unfoldable pub sends_in : (slot : Slot) (node : ℕ) (call : Call) (records : List ℕ) → Bool
  sends_in slot node call records = sends node call records && in_slot slot (out_after node call records)

  -- R14.10: the node signs a payload in a slot when it sends a bundle that has this slot, this payload and the node's own bit
  unfoldable pub signs : (slot : Slot) (payload : List ℕ) (node : ℕ) (call : Call) (records : List ℕ) → Bool
  signs slot payload node call records =
      sends_in slot node call records
      && (same (payload_in (out_after node call records)) payload && member (header_in (out_after node call records)).signers node)

  -- R14.11: a bundle reaches the node when a call there receives its bytes with 32 outgoing bytes, whoever brings it, and also if the call is refused.
  unfoldable pub reaches : (bundle : List ℕ) (node : ℕ) (call : Call) (records : List ℕ) → Bool
  reaches bundle node Open records = false
  reaches bundle node (Broadcast given out) records = false
  reaches bundle node (Receive given out) records = same given bundle && eqb (length out) bundle_size

  -- ---- and on a list of calls. R14.5: a call finds the buffer that the call before at its node left.

  abbrev pub buffer : (list : Trace Call) (node : ℕ) → List ℕ
  buffer = trace.state s.buffers records_after

  -- some call of the list at the node passes a test; how many do
  abbrev pub ever : (test : (node : ℕ) (call : Call) (records : List ℕ) → Bool) (list : Trace Call) (node : ℕ) → Bool
  ever = trace.ever s.buffers records_after

  abbrev pub times : (test : (node : ℕ) (call : Call) (records : List ℕ) → Bool) (list : Trace Call) (node : ℕ) → ℕ
  times = trace.times s.buffers records_after

  -- some call is at the node
  abbrev pub called : (list : Trace Call) (node : ℕ) → Bool
  called = ever (λ node call records. true)

  -- R14.6, signatures are genuine: where a node receives a bundle that reading accepts there, each correct node whose bit is set signed the bundle's payload
  -- in its slot, by an earlier call of the list.
  abbrev pub Unforged : (earlier : Trace Call) (node : ℕ) (call : Call) → Type 0
  Unforged earlier node Open = Unit
  Unforged earlier node (Broadcast given out) = Unit
  Unforged earlier node (Receive bundle out) =
      (h : Header) → read (config_at node) bundle ≡ done h
      → (v : ℕ) → correct v ≡ true → member h.signers v ≡ true
      → ever (signs (slot_of h) (payload_part (config_at node) bundle)) earlier v ≡ true

  -- R14.3 to R14.6: each call is at a correct node, whose buffer has the right length; a call is an opening where no call was at that node before, and only
  -- there; and no signature is forged.
  abbrev pub Lawful : (list : Trace Call) → Type 0
  Lawful start = Unit
  Lawful (earlier then node calls call) =
      Lawful earlier
      × (correct node ≡ true)
      × (length (s.buffers node) ≡ records_size (config_at node))
      × (opens node call (buffer earlier node) ≡ not (called earlier node))
      × Unforged earlier node call

  -- ---- the claim

  module _ (list : Trace Call) where
    -- R14.1 to R14.6: the configuration is good, so that n > 3t + 2d; at most t nodes are faulty; and the list is lawful. That the day fits 32 bits is what
    -- its type says.
    pub record Assumed : Type 0 where
      pub configured : good (config_at 0) ≡ true
      pub dated : s.shared.day < 2 ^ 32
      pub few : count s.faulty s.shared.n ≤ s.shared.t
      pub lawful : Lawful list

    -- R14.13: what two correct nodes have delivered in a slot is one payload
    abbrev pub Agreement : Type 0
    Agreement =
        (u v : ℕ) (slot : Slot) (first second : List ℕ) → correct u ≡ true → correct v ≡ true
        → ever (delivers slot first) list u ≡ true → ever (delivers slot second) list v ≡ true
        → first ≡ second

    -- R14.14: no correct node was answered delivered twice in a slot
    abbrev pub DeliversOnce : Type 0
    DeliversOnce = (u : ℕ) (slot : Slot) → correct u ≡ true → times (delivers_in slot) list u ≤ 1

    -- R14.15: what is delivered in a correct sender's slot was announced there by the sender;
    abbrev pub Validity : Type 0
    Validity =
        (u : ℕ) (slot : Slot) (payload : List ℕ) → correct u ≡ true → correct slot.sender ≡ true
        → ever (delivers slot payload) list u ≡ true
        → ever (announces slot payload) list slot.sender ≡ true

    -- and a correct node announces at most once in a slot, so that what it announced there is one payload
    abbrev pub AnnouncesOnce : Type 0
    AnnouncesOnce = (u : ℕ) (slot : Slot) → correct u ≡ true → times (announces_in slot) list u ≤ 1

    -- R14.16: a correct node has sent at most two bundles in a slot
    abbrev pub SendsAtMostTwice : Type 0
    SendsAtMostTwice = (u : ℕ) (slot : Slot) → correct u ≡ true → times (sends_in slot) list u ≤ 2

    -- R14.17: if each bundle that a correct node sent has reached c - d correct nodes or more, the sender counted where it was reached,
    abbrev pub Reached : Type 0
    Reached = (u : ℕ) (bundle : List ℕ) → correct u ≡ true → ever (sends_this bundle) list u ≡ true → NearlyAll (ever (reaches bundle) list)

    -- then what a correct node announced or delivered has been delivered by c - d correct nodes or more.
    abbrev pub Delivery : Type 0
    Delivery =
        (u : ℕ) (slot : Slot) (payload : List ℕ) → correct u ≡ true
        → (ever (announces slot payload) list u ≡ true) ⊎ (ever (delivers slot payload) list u ≡ true)
        → NearlyAll (ever (delivers slot payload) list)

    pub record Concluded : Type 0 where
      pub agreement : Agreement
      pub delivers_once : DeliversOnce
      pub validity : Validity
      pub announces_once : AnnouncesOnce
      pub sends_at_most_twice : SendsAtMostTwice
      pub delivery : Reached → Delivery

abbrev pub Demand3 : Type 0
Demand3 = (s : System) (list : Trace Call) → Assumed s list → Concluded s list
