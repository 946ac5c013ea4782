-- What specs/Example.antt claims: the words are computed over the lists, slot by slot (equivocators' proofs/Computing.antt).
-- Assumes nothing.
use mathlib.Core.Path.{◌≡◌, refl, ◌∙◌}
use mathlib.Core.Logic.{inl, inr}
use mathlib.Core.Bool.{true}
use Prim.Native.Nat.{ℕ, zero, suc}
use lib.Dec.{lit<}
use Rattle.protocol.specs.Trace as trace
use Rattle.protocol.specs.Trace.{Trace, start, ◌then◌calls◌, each}
use Rattle.calls.specs.WellFormed.{slot_well_formed, sender_well_formed, all_well_formed}
use Rattle.refusal.specs.Outcome.{done}
use Rattle.system.specs.Demand3.{Call, config_at, buffer, in_slot, correct, opens, sends, sends_in, signs}
use Rattle.system.specs.Example.{six_nodes, six, first, second, third, first_slot, gets, two_payloads, faulty_slot, correct_slot, opened, list}
use Rattle.system.specs.Tight.{room, receiving, four_nodes, four, two_nodes, pair, one_faulty, forged, left_over}
use Rattle.system.proofs.Computing.{calls-compute}
use Rattle.system.proofs.ComputedTests.{given-before, unforged-now, unforged-test, lawful-test, lawful-says}
use Rattle.system.proofs.Example.{not-vacuous}
use Rattle.system.proofs.Tight.{forged-tight}
use Rattle.equivocators.specs.Entries.{entries}
use Rattle.equivocators.specs.Equivocators.{slot_entries, equivocators_reasons}
use Rattle.equivocators.proofs.Computing.{word_both, word_beside, word_two, word_below, word_all, computed}
use Rattle.equivocators_trace.specs.Correct.{UpTo, equivocators_at}
use Rattle.equivocators_trace.specs.Example.{so_far, node5, FaultySenderNamed, ForgedNamesCorrect, one_called, UnopenedNamesCorrect}

-- one name for all that the lists are written with, and one for all that is unfolded to compute who is named
unfoldable lists-compute : Unit {0}
unfolding six_nodes six first second third first_slot gets two_payloads faulty_slot correct_slot opened list so_far room receiving four_nodes four two_nodes pair one_faulty forged left_over one_called calls-compute
lists-compute = tt

unfoldable names-compute : Unit {0}
unfolding entries slot_entries word_both word_beside word_two word_below word_all each slot_well_formed sender_well_formed all_well_formed equivocators_reasons
names-compute = tt

-- ---- the faulty sender

so-far : equivocators_at six so_far so_far 0 4 ≡ done node5
unfolding lists-compute names-compute
so-far = computed (config_at six 0) 4 (buffer six so_far 0) (buffer six so_far 4) node5 refl (lit< tt) ∙ refl

at-end : equivocators_at six list list 0 4 ≡ done node5
unfolding lists-compute names-compute
at-end = computed (config_at six 0) 4 (buffer six list 0) (buffer six list 4) node5 refl (lit< tt) ∙ refl

nobody-named : equivocators_at six list list 1 2 ≡ done 0
unfolding lists-compute names-compute
nobody-named = computed (config_at six 1) 2 (buffer six list 1) (buffer six list 2) 0 refl (lit< tt) ∙ refl

between : equivocators_at six so_far list 0 4 ≡ done node5
unfolding lists-compute names-compute
between = computed (config_at six 0) 4 (buffer six so_far 0) (buffer six list 4) node5 refl (lit< tt) ∙ refl

-- the list without its last k calls is a part of it
unfoldable without-last : (k : ℕ) (list : Trace Call) → Trace Call
without-last zero list = list
without-last (suc k) start = start
without-last (suc k) (earlier then u calls call) = without-last k earlier

is-part : (k : ℕ) (list : Trace Call) → UpTo list (without-last k list)
unfolding without-last
is-part zero start = refl
is-part zero (earlier then u calls call) = inl refl
is-part (suc k) start = refl
is-part (suc k) (earlier then u calls call) = inr (is-part k earlier)

early : UpTo list so_far
unfolding lists-compute without-last
early = is-part 39 list

pub faulty-sender-named : FaultySenderNamed
unfolding lists-compute correct trace.ever
faulty-sender-named = (not-vacuous.0, early, refl, refl, refl, refl, refl, refl, refl, so-far, at-end, between, refl, refl, refl, refl, nobody-named)

-- ---- signatures

all_named : equivocators_at one_faulty forged forged 0 1 ≡ done 15
unfolding lists-compute names-compute
all_named = computed (config_at one_faulty 0) 1 (buffer one_faulty forged 0) (buffer one_faulty forged 1) 15 refl (lit< tt) ∙ refl

pub forged-names-correct : ForgedNamesCorrect
unfolding lists-compute correct trace.ever
forged-names-correct = (forged-tight.0, refl, refl, all_named, refl, refl, refl)

-- ---- records that were not opened

node-0-named : equivocators_at left_over one_called one_called 0 1 ≡ done 1
unfolding lists-compute names-compute
node-0-named = computed (config_at left_over 0) 1 (buffer left_over one_called 0) (buffer left_over one_called 1) 1 refl (lit< tt) ∙ refl

lawful : lawful-test left_over one_called ≡ true
unfolding lists-compute in_slot correct opens sends sends_in signs each trace.ever given-before unforged-now unforged-test lawful-test
lawful = refl

pub unopened-names-correct : UnopenedNamesCorrect
unfolding lists-compute correct trace.ever
unopened-names-correct = (record { configured = refl; dated = lit< tt; lawful = lawful-says left_over one_called lawful }, refl, node-0-named, refl, refl)
