-- R14.19: seven parts of what demand 3, the claim of RULES section 14, asks cannot be left out. For each there is a list of calls that meets all the rest and
-- at which one promise or two fail: with t + 1 faults, with forged signatures, with one correct node too few reached, without opening first, without opening
-- once, with a buffer of no bytes, and with no outgoing bytes. For n > 3t + 2d there is no list here; protocol's specs/Tight.antt shows on values which bounds
-- of the quorum ask it. They are proved in proofs/Tight.antt, by lists that are written out and computed.
-- Assumes nothing.
use Rattle.std.specs.Prelude.{◌≡◌, Bool, true, false, cond, not, List, [], ◌++◌, ℕ, ◌+◌, ◌-◌, ◌≤◌, ◌<◌, ◌^◌, eqb, leb, length, replicate}
use Rattle.octets.specs.Octets.{same}
use Rattle.signers.specs.Sets.{NodeSet, count, both}
use Rattle.config.specs.declared.Config.{Config}
use Rattle.config.specs.Config.{config_for, good, record_size, records_size}
use Rattle.bundle.specs.Bundle.{bundle_size, bundle_of, header_of_day}
use Rattle.protocol.specs.Update.{Nothing, Held}
use Rattle.protocol.specs.Trace.{Trace, start, ◌then◌calls◌}
use Rattle.record.specs.Record.{encoding}
use Rattle.system.specs.Demand3.{Call, Open, Broadcast, Receive, System, config_at, correct, correct_count, NearlyAll, opens, sends_this, reaches, buffer, ever, called, Unforged, Lawful, Assumed, Agreement, DeliversOnce, Reached, Delivery}
use Rattle.system.specs.Example.{first, second}
use Rattle.system.specs.SlotBySlot.{one_node, alone}

-- ---- the hypotheses of demand 3, with a part asked for otherwise or not at all

-- what `Lawful` asks of a call: the node's buffer, whether it opens where its node was called, and signatures
module _ (s : System) (Sized : (node : ℕ) → Type 0) (Opening : (opens called : Bool) → Type 0) (Genuine : (earlier : Trace Call) (node : ℕ) (call : Call) → Type 0) where
  abbrev pub LawfulBy : (list : Trace Call) → Type 0
  LawfulBy start = Unit
  LawfulBy (earlier then node calls call) =
      LawfulBy earlier
      × (correct s node ≡ true)
      × Sized node
      × Opening (opens s node call (buffer s earlier node)) (called s earlier node)
      × Genuine earlier node call

-- R14.5's length and R14.4 as demand 3 asks them, and the two halves of R14.4: the first call at a node is an opening; a later one is none
abbrev pub RightLength : System → (node : ℕ) → Type 0
RightLength s node = length (s.buffers node) ≡ records_size (config_at s node)

abbrev pub OpensFirstAndOnce : (opens called : Bool) → Type 0
OpensFirstAndOnce opens called = opens ≡ not called

abbrev pub OpensFirst : (opens called : Bool) → Type 0
OpensFirst opens called = called ≡ false → opens ≡ true

abbrev pub OpensOnce : (opens called : Bool) → Type 0
OpensOnce opens called = opens ≡ true → called ≡ false

abbrev pub AsksAll : Type 0
AsksAll = (s : System) (list : Trace Call) → LawfulBy s (RightLength s) OpensFirstAndOnce (Unforged s) list → Lawful s list

-- what `Assumed` asks, with the bound on faults and what is lawful given
pub record AssumedBy (s : System) (Few : Type 0) (Allowed : Type 0) : Type 0 where
  pub configured : good (config_at s 0) ≡ true
  pub dated : s.shared.day < 2 ^ 32
  pub few : Few
  pub lawful : Allowed

abbrev pub AtMostT : System → Type 0
AtMostT s = count s.faulty s.shared.n ≤ s.shared.t

-- ---- systems

-- outgoing bytes of the right length
unfoldable pub room : List ℕ
room = replicate bundle_size 0

-- a bundle of the sender's first slot is received
unfoldable pub receiving : (config : Config) (sender signers : ℕ) (payload : List ℕ) → Call
receiving config sender signers payload = Receive (bundle_of (header_of_day config sender 0 signers) payload) room

-- four nodes, of which one may be faulty, with the quorum 3
unfoldable pub four_nodes : Config
four_nodes = config_for 4 1 0 7

unfoldable pub four : (faulty : NodeSet) → System
four faulty = record { shared = four_nodes; faulty = faulty; buffers = λ node. replicate (records_size four_nodes) 0 }

-- two nodes, neither faulty, with the quorum 2; node 1 has this buffer
unfoldable pub two_nodes : Config
two_nodes = config_for 2 0 0 7

unfoldable pub pair : (second : List ℕ) → System
pair second = record { shared = two_nodes; faulty = λ node. false; buffers = λ node. cond (eqb node 1) second (replicate (records_size two_nodes) 0) }

-- ---- faults (R14.1)

-- Nodes 2 and 3 are faulty, one more than t, and have signed two payloads in the slot of 3. Each correct node adds its own signature to one of them.
unfoldable pub two_faulty : System
two_faulty = four (leb 2)

unfoldable pub both_signed : Trace Call
both_signed =
    start
    then 0 calls Open
    then 1 calls Open
    then 0 calls receiving four_nodes 3 12 first
    then 1 calls receiving four_nodes 3 12 second

abbrev pub FaultyTight : Type 0
FaultyTight =
    AssumedBy two_faulty (count two_faulty.faulty two_faulty.shared.n ≡ two_faulty.shared.t + 1) (Lawful two_faulty both_signed)
    × (Agreement two_faulty both_signed → ⊥)

-- ---- signatures (R14.6)

-- Node 3 is faulty. Node 0 receives a payload as if 1 and 2 had signed it, and 1 another as if 0 and 2 had.
unfoldable pub one_faulty : System
one_faulty = four (λ node. eqb node 3)

unfoldable pub forged : Trace Call
forged =
    start
    then 0 calls Open
    then 1 calls Open
    then 0 calls receiving four_nodes 3 14 first
    then 1 calls receiving four_nodes 3 13 second

abbrev pub ForgedTight : Type 0
ForgedTight =
    AssumedBy one_faulty (AtMostT one_faulty) (LawfulBy one_faulty (RightLength one_faulty) OpensFirstAndOnce (λ earlier node call. Unit) forged)
    × (Agreement one_faulty forged → ⊥)

-- ---- losses (R14.17)

-- Node 0 announces. Its bundle and the one of 1, which signs it, reach 0 and 1 and not 2: one correct node fewer than c - d.
unfoldable pub one_missed : Trace Call
one_missed =
    start
    then 0 calls Open
    then 1 calls Open
    then 0 calls Broadcast first room
    then 0 calls receiving four_nodes 0 1 first
    then 1 calls receiving four_nodes 0 1 first
    then 0 calls receiving four_nodes 0 3 first
    then 1 calls receiving four_nodes 0 3 first

abbrev pub ReachTight : Type 0
ReachTight =
    Assumed one_faulty one_missed
    × ((u : ℕ) (bundle : List ℕ) → correct one_faulty u ≡ true → ever one_faulty (sends_this one_faulty bundle) one_missed u ≡ true
    → correct_count one_faulty - one_faulty.shared.d - 1 ≤ count (both (correct one_faulty) (ever one_faulty (reaches one_faulty bundle) one_missed)) one_faulty.shared.n)
    × (Delivery one_faulty one_missed → ⊥)

-- ---- openings (R14.4)

-- A node by itself opens the day, announces and delivers, and then opens the same day again. Its first slot is used twice: it delivers two payloads there.
unfoldable pub opened_again : Trace Call
opened_again =
    start
    then 0 calls Open
    then 0 calls Broadcast first room
    then 0 calls receiving one_node 0 1 first
    then 0 calls Open
    then 0 calls Broadcast second room
    then 0 calls receiving one_node 0 1 second

abbrev pub OpenOnceTight : Type 0
OpenOnceTight =
    AssumedBy alone (AtMostT alone) (LawfulBy alone (RightLength alone) OpensFirst (Unforged alone) opened_again)
    × (Agreement alone opened_again → ⊥)
    × (DeliversOnce alone opened_again → ⊥)

-- Node 0 opens the day and announces, and its bundle reaches both nodes. Node 1 does not open the day. Its buffer has bytes from before: in the first slot of node 0 a
-- record of another payload, well-formed, as if node 0 had announced it and node 1 had signed it. Too few deliver the announcement.
unfoldable pub left_over : System
left_over = pair (encoding (Held 3 second Nothing) ++ replicate (records_size two_nodes - record_size) 0)

unfoldable pub never_opened : Trace Call
never_opened =
    start
    then 0 calls Open
    then 0 calls Broadcast first room
    then 0 calls receiving two_nodes 0 1 first
    then 1 calls receiving two_nodes 0 1 first

abbrev pub OpenFirstTight : Type 0
OpenFirstTight =
    AssumedBy left_over (AtMostT left_over) (LawfulBy left_over (RightLength left_over) OpensOnce (Unforged left_over) never_opened)
    × Reached left_over never_opened
    × (Delivery left_over never_opened → ⊥)

-- ---- buffers (R14.5)

-- Both nodes open the day, but node 1 has no buffer. Node 0 announces, its bundle reaches both, and too few deliver.
unfoldable pub no_buffer : System
no_buffer = pair []

unfoldable pub both_opened : Trace Call
both_opened =
    start
    then 0 calls Open
    then 1 calls Open
    then 0 calls Broadcast first room
    then 0 calls receiving two_nodes 0 1 first
    then 1 calls receiving two_nodes 0 1 first

abbrev pub SizedTight : Type 0
SizedTight =
    AssumedBy no_buffer (AtMostT no_buffer) (LawfulBy no_buffer (λ node. Unit) OpensFirstAndOnce (Unforged no_buffer) both_opened)
    × Reached no_buffer both_opened
    × (Delivery no_buffer both_opened → ⊥)

-- ---- outgoing bytes (R14.11)

-- a call receives this bundle, with any outgoing bytes
unfoldable pub handed : (bundle : List ℕ) (node : ℕ) (call : Call) (records : List ℕ) → Bool
handed bundle node Open records = false
handed bundle node (Broadcast given out) records = false
handed bundle node (Receive given out) records = same given bundle

-- Two nodes with right buffers open the day, and node 0 announces. Its bundle is handed to both, but to node 1 with no outgoing bytes.
unfoldable pub both_sized : System
both_sized = pair (replicate (records_size two_nodes) 0)

unfoldable pub no_room : Trace Call
no_room =
    start
    then 0 calls Open
    then 1 calls Open
    then 0 calls Broadcast first room
    then 0 calls receiving two_nodes 0 1 first
    then 1 calls Receive (bundle_of (header_of_day two_nodes 0 0 1) first) []

abbrev pub RoomTight : Type 0
RoomTight =
    Assumed both_sized no_room
    × ((u : ℕ) (bundle : List ℕ) → correct both_sized u ≡ true → ever both_sized (sends_this both_sized bundle) no_room u ≡ true
    → NearlyAll both_sized (ever both_sized (handed bundle) no_room))
    × (Delivery both_sized no_room → ⊥)
