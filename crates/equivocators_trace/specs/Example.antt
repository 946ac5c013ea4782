-- R19.9: what R19.7 says is not empty, and its hypotheses matter. On the list of system's specs/Example.antt, which meets all that demand 3 assumes, the faulty sender is
-- named; before anybody has noted anything it is named by two nodes' records together; and two nodes that note nothing name nobody. With forged signatures, and
-- with records of a node that has not opened the day, correct nodes are named. They are proved in proofs/Example.antt, by lists that are written out and computed.
-- Assumes nothing.
use Rattle.std.specs.Prelude.{◌≡◌, true, false, ℕ}
use Rattle.refusal.specs.Outcome.{done}
use Rattle.protocol.specs.Update.{Nothing, note_of}
use Rattle.protocol.specs.Trace.{Trace, start, ◌then◌calls◌}
use Rattle.calls.specs.Algorithm.{record_of}
use Rattle.system.specs.Demand3.{Call, Open, Broadcast, config_at, correct, buffer, called, Assumed}
use Rattle.system.specs.Example.{six, first, first_slot, two_payloads, opened, list}
use Rattle.system.specs.Notes.{LawfulList}
use Rattle.system.specs.Tight.{AssumedBy, AtMostT, LawfulBy, RightLength, OpensFirstAndOnce, room, one_faulty, forged, left_over}
use Rattle.equivocators_trace.specs.Correct.{UpTo, equivocators_at}

-- ---- the faulty sender

-- Node 5 is faulty. In its slot, its first payload goes to 0, 1 and 2 and its second to 4, and that is all so far. Nodes 0 and 4 have one payload each, and note nothing;
-- side by side their records name node 5. At the end of the list nodes 0 and 4 have delivered the first payload and note the second, and name it too; so does what 0 had
-- then beside what 4 has at the end. Nodes 1 and 2 had delivered the first when the second reached them; they refuse it by 22,
-- note nothing, and name nobody: a faulty node need not be named.
unfoldable pub so_far : Trace Call
so_far = two_payloads opened

-- the word in which node 5 alone has its bit
abbrev pub node5 : ℕ
node5 = 32

abbrev pub FaultySenderNamed : Type 0
FaultySenderNamed =
    Assumed six list
    × UpTo list so_far
    × (called six so_far 0 ≡ true)
    × (called six so_far 4 ≡ true)
    × (correct six 0 ≡ true)
    × (correct six 4 ≡ true)
    × (six.faulty 5 ≡ true)
    × (note_of (record_of (config_at six 0) (first_slot 5) (buffer six so_far 0)) ≡ Nothing)
    × (note_of (record_of (config_at six 4) (first_slot 5) (buffer six so_far 4)) ≡ Nothing)
    × (equivocators_at six so_far so_far 0 4 ≡ done node5)
    × (equivocators_at six list list 0 4 ≡ done node5)
    × (equivocators_at six so_far list 0 4 ≡ done node5)
    × (called six list 1 ≡ true)
    × (called six list 2 ≡ true)
    × (correct six 1 ≡ true)
    × (correct six 2 ≡ true)
    × (equivocators_at six list list 1 2 ≡ done 0)

-- ---- signatures (R14.6)

-- Of four nodes, 3 is faulty. Node 0 receives a payload as if 1 and 2 had signed it, and 1 another as if 0 and 2 had. Each signs what it receives, so that all four
-- stand beside both, and all are named, the correct ones too.
abbrev pub ForgedNamesCorrect : Type 0
ForgedNamesCorrect =
    AssumedBy one_faulty (AtMostT one_faulty) (LawfulBy one_faulty (RightLength one_faulty) OpensFirstAndOnce (λ earlier node call. Unit) forged)
    × (called one_faulty forged 0 ≡ true)
    × (called one_faulty forged 1 ≡ true)
    × (equivocators_at one_faulty forged forged 0 1 ≡ done 15)
    × (correct one_faulty 0 ≡ true)
    × (correct one_faulty 1 ≡ true)
    × (correct one_faulty 2 ≡ true)

-- ---- records that were not opened (R14.4)

-- Node 0 opens the day and announces. Node 1 is not called: its buffer has bytes from before, a well-formed record of another payload in that slot. Node 0 is named.
unfoldable pub one_called : Trace Call
one_called = start then 0 calls Open then 0 calls Broadcast first room

abbrev pub UnopenedNamesCorrect : Type 0
UnopenedNamesCorrect =
    LawfulList left_over one_called
    × (called left_over one_called 1 ≡ false)
    × (equivocators_at left_over one_called one_called 0 1 ≡ done 1)
    × (correct left_over 0 ≡ true)
    × (correct left_over 1 ≡ true)
