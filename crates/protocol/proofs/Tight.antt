-- What specs/Tight.antt claims, each by a trace that is written out. The tests of proofs/ComputedTests.antt and the deliveries on it are computed.
-- Assumes nothing.
use mathlib.Core.Path.{refl, ap}
use mathlib.Core.Bool.{not, and-eq-true_iff, true≢false}
use mathlib.Core.Logic.{inl}
use mathlib.Core.List.{List}
use Prim.Native.Nat.{ℕ, ◌+◌, ◌≤◌}
use native.Mathlib.Omega.{arith}
use lib.Count.{ones}
use lib.Dec.{leb, lit≤, lit<}
use lib.ListN.{replicate}
use borrow.Author.Tests.{ltb-true, not-true}
use Rattle.octets.specs.Octets.{same}
use Rattle.signers.specs.Sets.{count}
use Rattle.signers.specs.Signers.{member, insert, within}
use Rattle.refusal.specs.Outcome.{unless}
use Rattle.protocol.specs.Update.{announced_by, update_reasons, joined_signers, update_result, update}
use Rattle.protocol.specs.Trace as trace
use Rattle.protocol.specs.Trace.{Trace, start, ◌then◌calls◌, each, state}
use Rattle.protocol.specs.OneSlot.{Act, Broadcast, Receive, outcome, record_after, sends, signs, delivers, delivers_this, broadcasts, broadcasts_this, receives, ever}
use Rattle.protocol.specs.Tight.{only, not_refused, QuorumTight, LeastTight, MostTight, BoundsAskResilience, ReachTight, FaultyTight, ForgedTight, SendsTight}
use Rattle.protocol.proofs.ComputedTests.{each-says, allowed-test, lawful-test, lawful-says, nearly-test, sent-test, reached-from, reached-test, reached-says}

-- two payloads
abbrev first : List ℕ
first = replicate 16 1

abbrev second : List ℕ
second = replicate 16 2

-- The faulty sender's signature on one payload reaches 0, and with that of 0 it reaches 1, which delivers with three signers; its bundle lets 0
-- deliver. The same happens with the other payload at 2 and 3. Signers as words: 16 is 4 alone, 17 is 0 and 4, 19 is 0, 1 and 4, 20 is 2 and 4, 28 is 2, 3 and 4.
split : Trace Act
split =
    start
    then 0 calls Receive 16 first
    then 1 calls Receive 17 first
    then 0 calls Receive 19 first
    then 2 calls Receive 16 second
    then 3 calls Receive 20 second
    then 2 calls Receive 28 second

-- 0 and 1 deliver the first payload, 2 and 3 the second
pub quorum-tight : QuorumTight
unfolding split lawful-test allowed-test each trace.ever state count outcome record_after update update_reasons unless joined_signers update_result
    member insert within ones signs delivers_this same
quorum-tight = (
  split,
  first,
  second,
  lit≤ tt,
  refl,
  lit≤ tt,
  lit≤ tt,
  lawful-says 5 3 4 (only 4) split refl,
  refl,
  refl,
  refl,
  refl,
  λ agreement. true≢false (ap (same first) (agreement 0 2 first second refl refl refl refl)),
)

pub bounds-ask-resilience : BoundsAskResilience
bounds-ask-resilience n t d q intersects reachable = omega arith

-- 0 broadcasts. Its bundle comes back to it and reaches 1, which signs; the bundle of the two reaches 0 and comes back to 1. Node 2 receives
-- nothing. Signers as words: 1 is 0 alone, 3 is 0 and 1.
missed : Trace Act
missed =
    start
    then 0 calls Broadcast first
    then 0 calls Receive 1 first
    then 1 calls Receive 1 first
    then 0 calls Receive 3 first
    then 1 calls Receive 3 first

-- nobody has more than two of the three signers needed
pub reach-tight : ReachTight
unfolding missed lawful-test allowed-test nearly-test sent-test reached-from reached-test each trace.ever state count outcome record_after announced_by update update_reasons
    unless joined_signers update_result member insert within ones signs delivers delivers_this broadcasts broadcasts_this receives same
reach-tight = (
  missed,
  record { fits = lit≤ tt; intersects = lit< tt; reachable = lit≤ tt },
  lit≤ tt,
  lawful-says 4 3 0 (only 3) missed refl,
  reached-says 4 3 0 (only 3) (0 + 1) missed refl,
  λ u is-correct. not-true _ (each-says (λ v. not (ever 3 (delivers 3) missed v)) 4 u refl (ltb-true u 4 ((and-eq-true_iff _ _).0 is-correct).0)),
  λ delivery. let none : 3 ≤ 0 = delivery 0 first refl (inl (refl, refl)) in absurd (omega arith),
)

-- The faulty sender's signature on one payload reaches 0, whose bundle reaches 1, whose bundle reaches 2, which delivers with four signers. The same happens with
-- the other payload at 3, 4 and 5. Signers as words: 128 is 7 alone, 129 is 0 and 7, 131 is 0, 1 and 7, 136 is 3 and 7, 152 is 3, 4 and 7.
split-eight : Trace Act
split-eight =
    start
    then 0 calls Receive 128 first
    then 1 calls Receive 129 first
    then 2 calls Receive 131 first
    then 3 calls Receive 128 second
    then 4 calls Receive 136 second
    then 5 calls Receive 152 second

pub least-tight : LeastTight
unfolding split-eight lawful-test allowed-test each trace.ever state count outcome record_after update update_reasons unless joined_signers update_result
    member insert within ones signs delivers_this same
least-tight = (
  split-eight,
  first,
  second,
  lit≤ tt,
  refl,
  lit≤ tt,
  lit≤ tt,
  lawful-says 8 4 7 (only 7) split-eight refl,
  refl,
  refl,
  λ agreement. true≢false (ap (same first) (agreement 2 5 first second refl refl refl refl)),
)

-- 0 broadcasts, and each of 1 to 5 signs the bundle of the one before it. Then each of the six bundles reaches all of 0 to 5, and 6 receives nothing. Signers as
-- words: 1 is 0 alone, 3 is 0 and 1, 7 is 0 to 2, 15 is 0 to 3, 31 is 0 to 4, 63 is 0 to 5.
unreachable : Trace Act
unreachable =
    start
    then 0 calls Broadcast first
    then 1 calls Receive 1 first
    then 2 calls Receive 3 first
    then 3 calls Receive 7 first
    then 4 calls Receive 15 first
    then 5 calls Receive 31 first
    then 0 calls Receive 1 first
    then 2 calls Receive 1 first
    then 3 calls Receive 1 first
    then 4 calls Receive 1 first
    then 5 calls Receive 1 first
    then 0 calls Receive 3 first
    then 1 calls Receive 3 first
    then 3 calls Receive 3 first
    then 4 calls Receive 3 first
    then 5 calls Receive 3 first
    then 0 calls Receive 7 first
    then 1 calls Receive 7 first
    then 2 calls Receive 7 first
    then 4 calls Receive 7 first
    then 5 calls Receive 7 first
    then 0 calls Receive 15 first
    then 1 calls Receive 15 first
    then 2 calls Receive 15 first
    then 3 calls Receive 15 first
    then 5 calls Receive 15 first
    then 0 calls Receive 31 first
    then 1 calls Receive 31 first
    then 2 calls Receive 31 first
    then 3 calls Receive 31 first
    then 4 calls Receive 31 first
    then 0 calls Receive 63 first
    then 1 calls Receive 63 first
    then 2 calls Receive 63 first
    then 3 calls Receive 63 first
    then 4 calls Receive 63 first
    then 5 calls Receive 63 first

-- nobody has more than six of the seven signers needed
pub most-tight : MostTight
unfolding unreachable lawful-test allowed-test nearly-test sent-test reached-from reached-test each trace.ever state count outcome record_after announced_by update update_reasons
    unless joined_signers update_result member insert within ones signs delivers delivers_this broadcasts broadcasts_this receives same
most-tight = (
  unreachable,
  lit≤ tt,
  lit< tt,
  refl,
  lit≤ tt,
  lawful-says 8 7 0 (only 7) unreachable refl,
  reached-says 8 7 0 (only 7) 1 unreachable refl,
  λ u is-correct. not-true _ (each-says (λ v. not (ever 7 (delivers 7) unreachable v)) 8 u refl (ltb-true u 8 ((and-eq-true_iff _ _).0 is-correct).0)),
  λ delivery. let none : 7 ≤ 1 = delivery 0 first refl (inl (refl, refl)) in absurd (omega arith),
)

-- 12 is 2 and 3
two-faulty : Trace Act
two-faulty =
    start
    then 0 calls Receive 12 first
    then 1 calls Receive 12 second

pub faulty-tight : FaultyTight
unfolding two-faulty lawful-test allowed-test each trace.ever state count outcome record_after update update_reasons unless joined_signers update_result
    member insert within ones signs delivers_this same
faulty-tight = (
  two-faulty,
  record { fits = lit≤ tt; intersects = lit< tt; reachable = lit≤ tt },
  refl,
  lawful-says 4 3 3 (leb 2) two-faulty refl,
  λ agreement. true≢false (ap (same first) (agreement 0 1 first second refl refl refl refl)),
)

-- 14 is all but 0, and 13 all but 1
forged : Trace Act
forged =
    start
    then 0 calls Receive 14 first
    then 1 calls Receive 13 second

pub forged-tight : ForgedTight
unfolding forged trace.ever state count outcome record_after update update_reasons unless joined_signers update_result member insert within ones delivers_this same
forged-tight = (
  forged,
  record { fits = lit≤ tt; intersects = lit< tt; reachable = lit≤ tt },
  lit≤ tt,
  ((tt, refl, refl, refl), refl, refl, refl),
  λ agreement. true≢false (ap (same first) (agreement 0 1 first second refl refl refl refl)),
)

-- 1 signs the bundle of 0, keeps it when it comes again, and delivers once 2 has signed too
three-answers : Trace Act
three-answers =
    start
    then 0 calls Broadcast first
    then 1 calls Receive 1 first
    then 1 calls Receive 1 first
    then 2 calls Receive 1 first
    then 1 calls Receive 5 first

pub sends-tight : SendsTight
unfolding three-answers lawful-test allowed-test each trace.ever trace.times state count outcome record_after announced_by update update_reasons unless joined_signers update_result
    member insert within ones sends signs broadcasts broadcasts_this same not_refused
sends-tight = (
  three-answers,
  record { fits = lit≤ tt; intersects = lit< tt; reachable = lit≤ tt },
  lit≤ tt,
  lawful-says 4 3 0 (only 3) three-answers refl,
  refl,
  refl,
)
