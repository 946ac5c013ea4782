-- R14.21: demand 3 is not empty where a site chose more than the least quorum. Three nodes, of which none is faulty and none misses a sending, have 3 in place of
-- 2. A list of calls, written out, meets all that is assumed of one, and all three deliver a payload, later than they do with 2. It is proved in
-- proofs/Stricter.antt.
-- Assumes nothing.
use Rattle.std.specs.Prelude.{◌≡◌, true, false, not, List, ℕ, ◌<◌, replicate}
use Rattle.payload.specs.Payload.{payload_size}
use Rattle.config.specs.declared.Config.{Config}
use Rattle.config.specs.declared.Slot.{Slot}
use Rattle.config.specs.Config.{least_quorum, config_for, with_quorum, slot_of_day, records_size}
use Rattle.bundle.specs.Bundle.{bundle_size, bundle_of, header_of_day}
use Rattle.protocol.specs.Trace.{Trace, start, ◌then◌calls◌, each}
use Rattle.system.specs.Demand3.{Call, Open, Broadcast, Receive, System, announces, delivers, ever, Assumed, Reached}

-- three nodes whose site chose the quorum q
unfoldable pub three_nodes : (q : ℕ) → Config
three_nodes q = with_quorum (config_for 3 0 0 7) q

unfoldable pub three : (q : ℕ) → System
three q = record { shared = three_nodes q; faulty = λ node. false; buffers = λ node. replicate (records_size (three_nodes q)) 255 }

-- what node 0 announces, and its first slot of the day
unfoldable pub announcement : List ℕ
announcement = replicate payload_size 1

unfoldable pub slot : Slot
slot = slot_of_day (config_for 3 0 0 7) 0 0

-- receiving, with outgoing bytes of the right length, a bundle of that slot
unfoldable pub gets : (signers : ℕ) → Call
gets signers = Receive (bundle_of (header_of_day (config_for 3 0 0 7) 0 0 signers) announcement) (replicate bundle_size 0)

-- 0 announces and sends 1. Node 1 signs it and sends 3, and 2 signs it and sends 5; 0 takes its own bundle and that of 1. So each of the three knows of two
-- signatures.
unfoldable pub early : Trace Call
early =
    start
    then 0 calls Open
    then 1 calls Open
    then 2 calls Open
    then 0 calls Broadcast announcement (replicate bundle_size 0)
    then 1 calls gets 1
    then 2 calls gets 1
    then 0 calls gets 1
    then 0 calls gets 3

-- Node 2 delivers by 3, and 0 and 1 by 5; each sends 7. Every bundle reaches all three.
unfoldable pub list : Trace Call
list =
    early
    then 1 calls gets 3
    then 2 calls gets 3
    then 0 calls gets 5
    then 1 calls gets 5
    then 2 calls gets 5
    then 0 calls gets 7
    then 1 calls gets 7
    then 2 calls gets 7

-- With the quorum 3 the list meets R14.1 to R14.6 and the premise of R14.17, and all three deliver what node 0 announced. When each knows of two signatures none
-- has delivered yet; with 2 all three have.
abbrev pub StricterNotVacuous : Type 0
StricterNotVacuous =
    (least_quorum 3 0 < 3)
    × Assumed (three 3) list
    × Reached (three 3) list
    × (ever (three 3) (announces (three 3) slot announcement) list 0 ≡ true)
    × (each (ever (three 3) (delivers (three 3) slot announcement) list) 3 ≡ true)
    × (each (λ node. not (ever (three 3) (delivers (three 3) slot announcement) early node)) 3 ≡ true)
    × (each (ever (three 2) (delivers (three 2) slot announcement) early) 3 ≡ true)
