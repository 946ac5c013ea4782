-- What the theorem of specs/OneSlot.antt assumes of the quorum's two bounds, and of faults, signatures and reaching (R14.19), cannot be left out: for each
-- there is a trace that keeps every other premise and at which a conclusion fails. And what it concludes on sending is exact. They are proved in
-- proofs/Tight.antt, by traces that are written out and computed. That n is at most 64 is for the word of signers, which has no bit for more.
-- Assumes nothing.
use Rattle.std.specs.Prelude.{◌≡◌, Bool, true, false, List, ℕ, ◌+◌, ◌*◌, ◌/◌, ◌≤◌, ◌<◌, eqb, leb}
use Rattle.signers.specs.Sets.{NodeSet, count}
use Rattle.signers.specs.Signers.{member, within}
use Rattle.refusal.specs.Outcome.{after}
use Rattle.protocol.specs.Update.{Record}
use Rattle.protocol.specs.Trace.{Trace, start, ◌then◌calls◌}
use Rattle.protocol.specs.OneSlot.{Act, Broadcast, Receive, outcome, sends, ever, times, delivers, delivers_this, correct, Quorum, Lawful, Reached, Agreement, Delivery}

-- the set of one node alone
abbrev pub only : (node : ℕ) → NodeSet
only v u = eqb u v

-- ---- the quorum

-- R17.5: (n + t)/2 rounded up is no quorum. With 5, 1, 0 it is 3: the sender, node 4, is faulty, nodes 0 and 1 deliver one payload and nodes 2 and 3 another.
-- Of the bounds of `Quorum` the other two hold, and n + t is not below 2q but equal to it.
abbrev pub QuorumTight : Type 0
QuorumTight =
    (list : Trace Act)
    × (first : List ℕ)
    × (second : List ℕ)
    × (5 ≤ 64)
    × (5 + 1 ≡ 3 + 3)
    × (3 + 1 + 0 ≤ 5)
    × (count (only 4) 5 ≤ 1)
    × Lawful 5 3 4 (only 4) list
    × (ever 3 (delivers_this 3 first) list 0 ≡ true)
    × (ever 3 (delivers_this 3 first) list 1 ≡ true)
    × (ever 3 (delivers_this 3 second) list 2 ≡ true)
    × (ever 3 (delivers_this 3 second) list 3 ≡ true)
    × (Agreement 5 3 4 (only 4) 0 list → ⊥)

-- R2.9: with 8, 1, 1 a site may choose 5 or 6 (R2.11), and either end is exact. One below the least is 4, with which two quorums need share no correct node:
-- the sender, node 7, is faulty, and nodes 2 and 5 deliver different payloads. Of the bounds of `Quorum` the other two hold.
abbrev pub LeastTight : Type 0
LeastTight =
    (list : Trace Act)
    × (first : List ℕ)
    × (second : List ℕ)
    × (8 ≤ 64)
    × ((8 + 1) / 2 + 1 ≡ 4 + 1)
    × (4 + 1 + 1 ≤ 8)
    × (count (only 7) 8 ≤ 1)
    × Lawful 8 4 7 (only 7) list
    × (ever 4 (delivers_this 4 first) list 2 ≡ true)
    × (ever 4 (delivers_this 4 second) list 5 ≡ true)
    × (Agreement 8 4 7 (only 7) 0 list → ⊥)

-- One above the most, n - t - d + 1, is 7 and out of reach: node 7 is faulty and silent, every bundle that a correct node sends is received by six of the seven
-- correct nodes, which is c - d, and none delivers. Of the bounds of `Quorum` the other two hold.
abbrev pub MostTight : Type 0
MostTight =
    (list : Trace Act)
    × (8 ≤ 64)
    × (8 + 1 < 7 + 7)
    × (7 + 1 + 1 ≡ 8 + 1)
    × (count (only 7) 8 ≤ 1)
    × Lawful 8 7 0 (only 7) list
    × Reached 8 7 0 (only 7) 1 list
    × ((u : ℕ) → correct 8 (only 7) u ≡ true → ever 7 (delivers 7) list u ≡ false)
    × (Delivery 8 7 0 (only 7) 1 list → ⊥)

-- The two bounds leave room for a quorum only where n is more than 3t + 2d, which is why a good configuration asks it (R2.2, R2.8).
abbrev pub BoundsAskResilience : Type 0
BoundsAskResilience = (n t d q : ℕ) → n + t < q + q → q + t + d ≤ n → 3 * t + 2 * d < n

-- ---- what is reached

-- For R14.17 it is too little that each bundle reaches c - d - 1 correct nodes. With 4, 1, 0 and node 3 faulty, the sender 0 broadcasts, each bundle that a
-- correct node sends is received by all correct nodes but one, and no correct node delivers.
abbrev pub ReachTight : Type 0
ReachTight =
    (list : Trace Act)
    × Quorum 4 1 0 3
    × (count (only 3) 4 ≤ 1)
    × Lawful 4 3 0 (only 3) list
    × Reached 4 3 0 (only 3) (0 + 1) list
    × ((u : ℕ) → correct 4 (only 3) u ≡ true → ever 3 (delivers 3) list u ≡ false)
    × (Delivery 4 3 0 (only 3) 0 list → ⊥)

-- ---- faults and signatures

-- With t + 1 faulty nodes (R14.1) there may be no agreement: with 4, 1, 0 and nodes 2 and 3 faulty, both sign two payloads in the slot of 3. Each of the two
-- correct nodes adds its own signature to one of them, which makes a quorum, and they deliver different payloads.
abbrev pub FaultyTight : Type 0
FaultyTight =
    (list : Trace Act)
    × Quorum 4 1 0 3
    × (count (leb 2) 4 ≡ 1 + 1)
    × Lawful 4 3 3 (leb 2) list
    × (Agreement 4 3 3 (leb 2) 0 list → ⊥)

-- what `Lawful` asks but for correct nodes' signatures: a bundle may show one that was never made
abbrev pub LawfulButSignatures : (n sender : ℕ) (faulty : NodeSet) → Trace Act → Type 0
LawfulButSignatures n sender faulty start = Unit
LawfulButSignatures n sender faulty (earlier then u calls Broadcast payload) =
    LawfulButSignatures n sender faulty earlier × (correct n faulty u ≡ true) × (u ≡ sender)
LawfulButSignatures n sender faulty (earlier then u calls Receive signers payload) =
    LawfulButSignatures n sender faulty earlier × (correct n faulty u ≡ true) × (within signers n ≡ true) × (member signers sender ≡ true)

-- With correct nodes' signatures forged (R14.6) there may be no agreement: with 4, 1, 0 and node 3 faulty, 0 receives one payload as if 1 and 2 had signed it,
-- and 1 another as if 0 and 2 had.
abbrev pub ForgedTight : Type 0
ForgedTight =
    (list : Trace Act)
    × Quorum 4 1 0 3
    × (count (only 3) 4 ≤ 1)
    × LawfulButSignatures 4 3 (only 3) list
    × (Agreement 4 3 3 (only 3) 0 list → ⊥)

-- ---- what is sent

-- the act is not refused
unfoldable pub not_refused : (q own : ℕ) (act : Act) (r : Record) → Bool
not_refused q own act r = after (outcome q own act r) (λ result. true) false

-- R14.16: two bundles are sent, so that no smaller bound holds. A node that sent on every bundle that it does not refuse, kept ones too, would send three
-- (R17.5).
abbrev pub SendsTight : Type 0
SendsTight =
    (list : Trace Act)
    × Quorum 4 1 0 3
    × (count (only 3) 4 ≤ 1)
    × Lawful 4 3 0 (only 3) list
    × (times 3 (sends 3) list 1 ≡ 2)
    × (times 3 (not_refused 3) list 1 ≡ 3)
