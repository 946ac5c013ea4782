-- R14.19: demand 3, the claim of RULES section 14, is not empty. A list of calls, written out, meets all that is assumed of one; on it a faulty node sends two
-- payloads in its slot, of which correct nodes note the second, each bundle that a correct node sends misses one, and payloads are delivered. It is proved in
-- proofs/Example.antt.
-- Assumes nothing.
use Rattle.std.specs.Prelude.{◌≡◌, true, List, ℕ, ◌-◌, eqb, replicate}
use Rattle.signers.specs.Sets.{count, both}
use Rattle.payload.specs.Payload.{payload_size}
use Rattle.config.specs.declared.Config.{Config}
use Rattle.config.specs.declared.Slot.{Slot}
use Rattle.config.specs.Config.{config_for, slot_of_day, records_size}
use Rattle.bundle.specs.Bundle.{bundle_size, bundle_of, header_of_day}
use Rattle.refusal.specs.Outcome.{Outcome, done, ◌and_then◌}
use Rattle.protocol.specs.Update.{Note, Noted, note_of, Answer, noted}
use Rattle.protocol.specs.Trace.{Trace, start, ◌then◌calls◌, each}
use Rattle.calls.specs.Receive.{receive, reported}
use Rattle.calls.specs.Algorithm.{record_of}
use Rattle.system.specs.Demand3.{Call, Open, Broadcast, Receive, System, config_at, buffer, correct, correct_count, announces, delivers, sends_this, signs, reaches, ever, Assumed, Reached}

-- Six nodes, of which one may be faulty; a sending may miss one correct node. The quorum is 4.
unfoldable pub six_nodes : Config
six_nodes = config_for 6 1 1 7

-- node 5 is the faulty one
unfoldable pub six : System
six = record {
  shared = six_nodes;
  faulty = λ node. eqb node 5;
  buffers = λ node. replicate (records_size six_nodes) 255;
}

-- the two payloads that node 5 sends, and the one that node 0 announces
unfoldable pub first : List ℕ
first = replicate payload_size 1

unfoldable pub second : List ℕ
second = replicate payload_size 2

unfoldable pub third : List ℕ
third = replicate payload_size 3

-- the sender's first slot of the day
unfoldable pub first_slot : (sender : ℕ) → Slot
first_slot sender = slot_of_day six_nodes sender 0

-- receiving, with outgoing bytes of the right length, a bundle of the sender's first slot. Signers are a word, in which bit u stands for node u.
unfoldable pub gets : (sender signers : ℕ) (payload : List ℕ) → Call
gets sender signers payload = Receive (bundle_of (header_of_day six_nodes sender 0 signers) payload) (replicate bundle_size 0)

-- the slot of node 5. What it signs itself, 32, goes to 0, and with the other payload to 4. Node 0 sends 33, 1 sends 35 and 2, which delivers, sends
-- 39; 4 sends 48.
unfoldable pub two_payloads : Trace Call → Trace Call
two_payloads before =
    before
    then 0 calls gets 5 32 first
    then 1 calls gets 5 33 first
    then 2 calls gets 5 35 first
    then 4 calls gets 5 32 second

-- That reaches 0, which holds the first payload and notes the second. Then 39 lets 0, 1, 3 and 4 deliver, 4 although it signed the other payload, which it
-- notes then, and 3 sends 47. The calls after these nine are refused: they bring each bundle that a correct node sent to four of them.
unfoldable pub faulty_slot : Trace Call → Trace Call
faulty_slot before =
    two_payloads before
    then 0 calls gets 5 48 second
    then 0 calls gets 5 39 first
    then 1 calls gets 5 39 first
    then 3 calls gets 5 39 first
    then 4 calls gets 5 39 first
    then 0 calls gets 5 33 first
    then 2 calls gets 5 33 first
    then 3 calls gets 5 33 first
    then 0 calls gets 5 35 first
    then 1 calls gets 5 35 first
    then 3 calls gets 5 35 first
    then 4 calls gets 5 48 second
    then 1 calls gets 5 48 second
    then 2 calls gets 5 48 second
    then 0 calls gets 5 47 first
    then 1 calls gets 5 47 first
    then 2 calls gets 5 47 first
    then 4 calls gets 5 47 first

-- the slot of node 0. It announces and sends 1; 1 sends 3, 2 sends 7 and 3, which delivers, sends 15; with that 0, 1, 2 and 4 deliver, and 4 sends 31.
-- The calls after these eight are refused, and bring each of the five to four correct nodes.
unfoldable pub correct_slot : Trace Call → Trace Call
correct_slot before =
    before
    then 0 calls Broadcast third (replicate bundle_size 0)
    then 1 calls gets 0 1 third
    then 2 calls gets 0 3 third
    then 3 calls gets 0 7 third
    then 0 calls gets 0 15 third
    then 1 calls gets 0 15 third
    then 2 calls gets 0 15 third
    then 4 calls gets 0 15 third
    then 0 calls gets 0 1 third
    then 2 calls gets 0 1 third
    then 3 calls gets 0 1 third
    then 0 calls gets 0 3 third
    then 1 calls gets 0 3 third
    then 3 calls gets 0 3 third
    then 0 calls gets 0 7 third
    then 1 calls gets 0 7 third
    then 2 calls gets 0 7 third
    then 0 calls gets 0 31 third
    then 1 calls gets 0 31 third
    then 2 calls gets 0 31 third
    then 3 calls gets 0 31 third

unfoldable pub opened : Trace Call
opened = start then 0 calls Open then 1 calls Open then 2 calls Open then 3 calls Open then 4 calls Open

unfoldable pub list : Trace Call
list = correct_slot (faulty_slot opened)

-- what node 0 answers, with the count, to the bundle of node 4, which has the second payload
unfoldable pub answer_to48 : Outcome (Answer × ℕ)
answer_to48 =
    receive (config_at six 0) (bundle_of (header_of_day six_nodes 5 0 48) second) (buffer six (two_payloads opened) 0) (replicate bundle_size 0) and_then λ result.
    done (reported result)

-- what a node notes in the slot of node 5 at the list's end
abbrev pub noted_at : (node : ℕ) → Note
noted_at node = note_of (record_of (config_at six node) (first_slot 5) (buffer six list node))

-- how many correct nodes the bundle has reached
abbrev pub reached : (bundle : List ℕ) → ℕ
reached bundle = count (both (correct six) (ever six (reaches six bundle) list)) six.shared.n

-- The list meets R14.1 to R14.6 and the premise of R14.17, with each bundle that a correct node sent reaching c - d of them and not one more. Node 4 signed
-- one payload in the slot of node 5 and delivered the other, as all correct nodes did. Node 0, which held that one, answered noted to the first bundle with
-- the second payload; at the end it and node 4 note it, with the signatures of 4 and of 5, which said two things. Node 0 announced a payload, which all of
-- them delivered.
abbrev pub NotVacuous : Type 0
NotVacuous =
    Assumed six list
    × Reached six list
    × ((u : ℕ) (bundle : List ℕ) → correct six u ≡ true → ever six (sends_this six bundle) list u ≡ true → reached bundle ≡ correct_count six - six.shared.d)
    × (ever six (signs six (first_slot 5) second) list 4 ≡ true)
    × (each (ever six (delivers six (first_slot 5) first) list) 5 ≡ true)
    × (answer_to48 ≡ done (noted, 2))
    × (noted_at 0 ≡ Noted 48 second)
    × (noted_at 4 ≡ Noted 48 second)
    × (ever six (announces six (first_slot 0) third) list 0 ≡ true)
    × (each (ever six (delivers six (first_slot 0) third) list) 5 ≡ true)
