-- One slot at all correct nodes together, on values: the argument of demand 3, the claim of RULES section 14. A trace has the acts in this slot and nothing
-- else, so days, other slots and the bytes of bundles and records do not occur in it. The quorum q is any number within the bounds of `Quorum`.
-- The theorem about the calls themselves is stated in the crate `system`, and rests on this one. It is proved in proofs/OneSlot.antt.
-- Assumes nothing.
use Rattle.std.specs.Prelude.{◌≡◌, ◌⊎◌, Bool, true, false, not, ◌&&◌, List, [], ◌∷◌, ℕ, ◌+◌, ◌≤◌, ◌<◌, ltb, eqb}
use Rattle.octets.specs.Octets.{same}
use Rattle.signers.specs.Sets.{NodeSet, count, both}
use Rattle.signers.specs.Signers.{member, within}
use Rattle.refusal.specs.Outcome.{Outcome, ◌if◌, unless, after}
use Rattle.protocol.specs.Update as protocol
use Rattle.protocol.specs.Update.{Record, Empty, signers_of, payload_of, is_empty, Update, announced, announced_by, update}
use Rattle.protocol.specs.Trace as trace
use Rattle.protocol.specs.Trace.{Trace, start, ◌then◌calls◌}

-- What concerns a slot at a node: it broadcasts a payload there, or it receives a bundle of the slot with these signers and this payload.
pub data Act : Type 0 where
  Broadcast : (payload : List ℕ) → Act
  Receive : (signers : ℕ) (payload : List ℕ) → Act

module _ (q : ℕ) where
  -- ---- one act at a node that finds the record r

  -- Broadcasting needs an empty record. Receiving updates the record.
  unfoldable pub outcome : (own : ℕ) (act : Act) (r : Record) → Outcome Update
  outcome own (Broadcast payload) r =
      unless ((25 if not (is_empty r)) ∷ []) (record { answer = announced; new_record = announced_by own payload })
  outcome own (Receive signers payload) r = update own q signers payload r

  -- the record that the act leaves
  unfoldable pub record_after : (own : ℕ) (act : Act) (r : Record) → Record
  record_after own act r = after (outcome own act r) (λ result. result.new_record) r

  -- R14.9: the node sends a bundle; it sends this bundle
  unfoldable pub sends : (own : ℕ) (act : Act) (r : Record) → Bool
  sends own act r = after (outcome own act r) (λ result. protocol.sends result.answer) false

  unfoldable pub sends_this : (signers : ℕ) (payload : List ℕ) (own : ℕ) (act : Act) (r : Record) → Bool
  sends_this signers payload own act r =
      after (outcome own act r)
      (λ result. protocol.sends result.answer && (eqb (signers_of result.new_record) signers && same (payload_of result.new_record) payload))
      false

  -- R14.10: the node signs the payload: it sends a bundle with the payload in which its own bit is set
  unfoldable pub signs : (payload : List ℕ) (own : ℕ) (act : Act) (r : Record) → Bool
  signs payload own act r =
      after (outcome own act r)
      (λ result. protocol.sends result.answer && (same (payload_of result.new_record) payload && member (signers_of result.new_record) own))
      false

  -- R14.8: the node delivers; it delivers this payload
  unfoldable pub delivers : (own : ℕ) (act : Act) (r : Record) → Bool
  delivers own act r = after (outcome own act r) (λ result. protocol.delivers result.answer) false

  unfoldable pub delivers_this : (payload : List ℕ) (own : ℕ) (act : Act) (r : Record) → Bool
  delivers_this payload own act r =
      after (outcome own act r) (λ result. protocol.delivers result.answer && same (payload_of result.new_record) payload) false

  -- R14.7: the node broadcasts, and is not refused; it broadcasts this payload
  unfoldable pub broadcasts : (own : ℕ) (act : Act) (r : Record) → Bool
  broadcasts own (Broadcast payload) r = is_empty r
  broadcasts own (Receive signers payload) r = false

  unfoldable pub broadcasts_this : (payload : List ℕ) (own : ℕ) (act : Act) (r : Record) → Bool
  broadcasts_this payload own (Broadcast first) r = broadcasts own (Broadcast first) r && same first payload
  broadcasts_this payload own (Receive signers first) r = false

  -- R14.11: the node receives a bundle with these signers and this payload, whether it refuses it or not
  unfoldable pub receives : (signers : ℕ) (payload : List ℕ) (own : ℕ) (act : Act) (r : Record) → Bool
  receives signers payload own (Broadcast first) r = false
  receives signers payload own (Receive given first) r = eqb given signers && same first payload

  -- ---- and on a trace, before which every record is empty

  -- the record of a node after the acts
  abbrev pub current_record : (list : Trace Act) (node : ℕ) → Record
  current_record = trace.state (λ node. Empty) record_after

  abbrev pub ever : (test : (own : ℕ) (act : Act) (r : Record) → Bool) (list : Trace Act) (node : ℕ) → Bool
  ever = trace.ever (λ node. Empty) record_after

  abbrev pub times : (test : (own : ℕ) (act : Act) (r : Record) → Bool) (list : Trace Act) (node : ℕ) → ℕ
  times = trace.times (λ node. Empty) record_after

-- R14.1: of n nodes those of the set are faulty, and the others are correct.
abbrev pub correct : (n : ℕ) (faulty : NodeSet) → NodeSet
correct n faulty u = ltb u n && not (faulty u)

-- R2.8: what the argument asks of the quorum, where at most t nodes are faulty and a sending may miss d correct nodes. A word of signers has 64 bits.
pub record Quorum (n t d q : ℕ) : Type 0 where
  pub fits : n ≤ 64
  pub intersects : n + t < q + q
  pub reachable : q + t + d ≤ n

module _ (n q sender : ℕ) (faulty : NodeSet) where
  -- Only the sender broadcasts. A bundle that is received has its sender's signature, no signer that is not a node, and a correct node's signature
  -- only if that node signed this payload by an earlier act (R14.6).
  abbrev pub Allowed : (earlier : Trace Act) (u : ℕ) (act : Act) → Type 0
  Allowed earlier u (Broadcast payload) = u ≡ sender
  Allowed earlier u (Receive signers payload) =
      (within signers n ≡ true)
      × (member signers sender ≡ true)
      × ((v : ℕ) → correct n faulty v ≡ true → member signers v ≡ true → ever q (signs q payload) earlier v ≡ true)

  -- Every act is at a correct node, and is allowed.
  abbrev pub Lawful : Trace Act → Type 0
  Lawful start = Unit
  Lawful (earlier then u calls act) = Lawful earlier × (correct n faulty u ≡ true) × Allowed earlier u act

  module _ (d : ℕ) (list : Trace Act) where
    -- what is assumed, where at most t nodes are faulty
    pub record Assumed (t : ℕ) : Type 0 where
      pub quorum : Quorum n t d q
      pub few : count faulty n ≤ t
      pub lawful : Lawful list

    -- R14.12: the set has at least c - d of the c correct nodes
    abbrev pub NearlyAll : (p : NodeSet) → Type 0
    NearlyAll p = count (correct n faulty) n ≤ d + count (both (correct n faulty) p) n

    -- the premise of R14.17: every bundle that a correct node sent was received by at least c - d correct nodes
    abbrev pub Reached : Type 0
    Reached =
        (u signers : ℕ) (payload : List ℕ) → correct n faulty u ≡ true → ever q (sends_this q signers payload) list u ≡ true
        → NearlyAll (ever q (receives q signers payload) list)

    -- R14.13: no two correct nodes deliver different payloads
    abbrev pub Agreement : Type 0
    Agreement =
        (u v : ℕ) (first second : List ℕ) → correct n faulty u ≡ true → correct n faulty v ≡ true
        → ever q (delivers_this q first) list u ≡ true → ever q (delivers_this q second) list v ≡ true
        → first ≡ second

    -- R14.14: no node delivers twice
    abbrev pub DeliversOnce : Type 0
    DeliversOnce = (u : ℕ) → times q (delivers q) list u ≤ 1

    -- R14.15: what is delivered in a correct sender's slot is what the sender broadcast there,
    abbrev pub Validity : Type 0
    Validity =
        (u : ℕ) (payload : List ℕ) → correct n faulty u ≡ true → correct n faulty sender ≡ true
        → ever q (delivers_this q payload) list u ≡ true
        → ever q (broadcasts_this q payload) list sender ≡ true

    -- and no node broadcasts twice
    abbrev pub BroadcastsOnce : Type 0
    BroadcastsOnce = (u : ℕ) → times q (broadcasts q) list u ≤ 1

    -- R14.16: no node sends more than two bundles
    abbrev pub SendsAtMostTwice : Type 0
    SendsAtMostTwice = (u : ℕ) → times q (sends q) list u ≤ 2

    -- R14.17: what the correct sender broadcast, and what some correct node delivered, at least c - d correct nodes deliver
    abbrev pub Delivery : Type 0
    Delivery =
        (u : ℕ) (payload : List ℕ) → correct n faulty u ≡ true
        → ((u ≡ sender) × (ever q (broadcasts_this q payload) list u ≡ true)) ⊎ (ever q (delivers_this q payload) list u ≡ true)
        → NearlyAll (ever q (delivers_this q payload) list)

    pub record Concluded : Type 0 where
      pub agreement : Agreement
      pub delivers_once : DeliversOnce
      pub validity : Validity
      pub broadcasts_once : BroadcastsOnce
      pub sends_at_most_twice : SendsAtMostTwice
      pub delivery : Reached → Delivery

-- The theorem on values.
abbrev pub OneSlotHolds : Type 0
OneSlotHolds =
    (n t d q sender : ℕ) (faulty : NodeSet) (list : Trace Act)
    → Assumed n q sender faulty d list t → Concluded n q sender faulty d list
