-- R18.10 to R18.12 are not empty, and R18.10 needs that at most t nodes are faulty: two lists of calls, written out. On the first, which meets all that demand 3
-- assumes, a faulty node says 90 degrees, as one with swapped sensors would, and the outcome is a setpoint that a correct node announced. On the second one node
-- more is faulty than may be, and the outcome is 90 degrees. They are proved in proofs/Example.antt.
-- Assumes nothing.
use Rattle.std.specs.Prelude.{◌≡◌, List, [], ◌∷◌, ◌++◌, ℕ, ◌+◌, ◌<◌, ltb, eqb, ℤ, pos, negsuc, replicate}
use Rattle.octets.specs.Octets.{bytes_of}
use Rattle.signers.specs.Sets.{NodeSet, count}
use Rattle.refusal.specs.Outcome.{refused, done}
use Rattle.config.specs.declared.Config.{Config}
use Rattle.config.specs.Config.{config_for, records_size}
use Rattle.bundle.specs.Bundle.{bundle_size, bundle_of, header_of_day}
use Rattle.protocol.specs.Trace.{Trace, start, ◌then◌calls◌}
use Rattle.system.specs.Demand3.{Call, Open, Broadcast, Receive, System, config_at, buffer, Lawful, Assumed}
use Rattle.signed.specs.Signed.{bits_of}
use Rattle.pool.specs.Pool.{pool}
use Rattle.pool_trace.specs.Announced.{AnnouncedSetpoint, setpoint_at}

-- Four nodes, of which one may be faulty; no sending misses a correct node. The quorum is 3.
unfoldable pub four_nodes : Config
four_nodes = config_for 4 1 0 7

unfoldable pub four : (faulty : NodeSet) → System
four faulty = record { shared = four_nodes; faulty = faulty; buffers = λ node. replicate (records_size four_nodes) 255 }

-- the payload that says a setpoint (R18.1); those that say 21.5 degrees, 21, half a degree below zero, and 90
unfoldable pub saying : (hundredths : ℤ) → List ℕ
saying hundredths = 1 ∷ (bytes_of 2 (bits_of hundredths) ++ replicate 13 0)

unfoldable pub first : List ℕ
first = saying (pos 2150)

unfoldable pub second : List ℕ
second = saying (pos 2100)

unfoldable pub third : List ℕ
third = saying (negsuc 49)

unfoldable pub swapped : List ℕ
swapped = saying (pos 9000)

-- announcing a payload, and receiving a bundle of the sender's first slot, each with outgoing bytes of the right length. Signers are a word, in which bit u
-- stands for node u.
unfoldable pub announcing : (payload : List ℕ) → Call
announcing payload = Broadcast payload (replicate bundle_size 0)

unfoldable pub gets : (sender signers : ℕ) (payload : List ℕ) → Call
gets sender signers payload = Receive (bundle_of (header_of_day four_nodes sender 0 signers) payload) (replicate bundle_size 0)

-- ---- one faulty node

unfoldable pub one_faulty : System
one_faulty = four (λ node. eqb node 3)

-- Node 0 announces, and sends its bundle with the signers 1. Node 1 signs it and sends 3; 2 delivers by that and sends 7, by which 0 and 1 deliver. The slot of node 1 goes alike.
unfoldable pub two_pooled : Trace Call
two_pooled =
    start
    then 0 calls Open
    then 1 calls Open
    then 2 calls Open
    then 0 calls announcing first
    then 1 calls gets 0 1 first
    then 2 calls gets 0 3 first
    then 0 calls gets 0 7 first
    then 1 calls gets 0 7 first
    then 1 calls announcing second
    then 0 calls gets 1 2 second
    then 2 calls gets 1 3 second
    then 0 calls gets 1 7 second
    then 1 calls gets 1 7 second

-- So does that of node 2. Node 3 signs what it says, 8, and that goes to 0, which signs it and sends 9; 1 delivers by that and sends 11, by which 0 and 2 deliver.
unfoldable pub list : Trace Call
list =
    two_pooled
    then 2 calls announcing third
    then 0 calls gets 2 4 third
    then 1 calls gets 2 5 third
    then 0 calls gets 2 7 third
    then 2 calls gets 2 7 third
    then 0 calls gets 3 8 swapped
    then 1 calls gets 3 9 swapped
    then 0 calls gets 3 11 swapped
    then 2 calls gets 3 11 swapped

-- of the four in rising order, -0.5, 21, 21.5 and 90 degrees, the second (R18.6)
unfoldable pub middle : ℤ
middle = pos 2100

-- The list meets R14.1 to R14.6. With two setpoints node 0 is refused, since three are asked for where one node may be faulty. At the end it pools all four, and
-- each correct node comes to 21 degrees, which node 1 announced.
abbrev pub SwappedSensorsList : Type 0
SwappedSensorsList =
    Assumed one_faulty list
    × (setpoint_at one_faulty two_pooled 0 ≡ refused 27)
    × (pool (config_at one_faulty 0) (buffer one_faulty list 0) ≡ pos 2150 ∷ pos 2100 ∷ negsuc 49 ∷ pos 9000 ∷ [])
    × ((u : ℕ) → u < 3 → setpoint_at one_faulty list u ≡ done middle)

-- ---- two faulty nodes

unfoldable pub two_faulty : System
two_faulty = four (λ node. ltb 1 node)

-- Nodes 2 and 3 say 90 degrees each, and both sign that. Node 0 delivers it in the slots of both, and what it announced by the signatures of 1 and of 2.
unfoldable pub overrun : Trace Call
overrun =
    start
    then 0 calls Open
    then 1 calls Open
    then 0 calls announcing first
    then 1 calls gets 0 1 first
    then 0 calls gets 0 7 first
    then 0 calls gets 2 12 swapped
    then 0 calls gets 3 12 swapped

-- The list is lawful, with the configuration of the first one, but one node more is faulty than R14.1 allows. The outcome is 90 degrees, and no correct node announced
-- another setpoint than 21.5 degrees.
abbrev pub DraggedByTwo : Type 0
DraggedByTwo =
    Lawful two_faulty overrun
    × (count two_faulty.faulty four_nodes.n ≡ four_nodes.t + 1)
    × (setpoint_at two_faulty overrun 0 ≡ done (pos 9000))
    × ((sender : ℕ) (value : ℤ) → AnnouncedSetpoint two_faulty overrun sender value → value ≡ pos 2150)
