-- No correct node is named: what specs/Correct.antt claims. All records are well-formed after a list in order; a correct node that is a signer beside a payload has
-- signed it, and it signs one payload in a slot. From system's proofs/OrderlyRefusals.antt, proofs/Notes.antt and proofs/Differences.antt, and equivocators'
-- proofs/Named.antt.
-- Assumes nothing.
use mathlib.Core.Path.{◌≡◌, refl, sym, ◌∙◌, subst}
use mathlib.Core.Logic.{inl, inr}
use mathlib.Core.Bool.{Bool, true, false, true≢false}
use mathlib.Core.List.{List}
use Prim.Native.Nat.{ℕ, ◌<◌}
use native.Mathlib.Nat.{le_trans}
use native.Mathlib.Omega.{arith}
use borrow.Author.Tests.{lt-ltb}
use Rattle.signers.specs.Signers.{member, within}
use Rattle.signers.specs.Words.{set_word}
use Rattle.signers.proofs.Counting.{count-mono}
use Rattle.signers.proofs.Members.{within-lt, within-says, size-count}
use Rattle.refusal.specs.Outcome.{done}
use Rattle.config.specs.Config.{slot_of_day, with_own, in_range}
use Rattle.config.proofs.Laws.{in-range}
use Rattle.protocol.specs.Trace.{Trace, start, ◌then◌calls◌}
use Rattle.protocol.proofs.TraceLaws.{ever-grows, ever-mono}
use Rattle.system.specs.Demand3.{Call, System, config_at, correct, records_after, signs, buffer, ever, called, Lawful}
use Rattle.system.specs.Order.{InOrder, Orderly}
use Rattle.system.specs.Notes.{LawfulList}
use Rattle.system.proofs.CommonConfig.{config-good}
use Rattle.system.proofs.Simulation.{correct-below, lawful-order}
use Rattle.system.proofs.OrderlyRefusals.{records-well-formed}
use Rattle.system.proofs.Notes.{assumed-lawful, worth-of-signers}
use Rattle.system.proofs.Differences.{one-payload-held}
use Rattle.equivocators.specs.Equivocators.{equivocates, equivocators}
use Rattle.equivocators.specs.Named.{StandsInEither, Equivocated}
use Rattle.equivocators.proofs.Refusals.{names}
use Rattle.equivocators.proofs.Named.{named-exactly, named-are-nodes}
use Rattle.equivocators_trace.specs.Correct.{UpTo, NamesFaultyAtEnd, NamesFaulty, NeverRefused, NamesNoCorrect}

-- ---- up to a call of the list

module _ (s : System) where
  lawful-up-to : (list part : Trace Call) → UpTo list part → Lawful s list → Lawful s part
  lawful-up-to start part is lawful = subst (Lawful s) (sym is) lawful
  lawful-up-to (earlier then u calls call) part (inl is) lawful = subst (Lawful s) (sym is) lawful
  lawful-up-to (earlier then u calls call) part (inr before) lawful = lawful-up-to earlier part before lawful.0

  ever-up-to : (test : (node : ℕ) (call : Call) (records : List ℕ) → Bool) (v : ℕ) (list part : Trace Call) → UpTo list part → ever s test part v ≡ true → ever s test list v ≡ true
  ever-up-to test v start part is e = subst (λ (p : Trace Call). ever s test p v ≡ true) is e
  ever-up-to test v (earlier then u calls call) part (inl is) e = subst (λ (p : Trace Call). ever s test p v ≡ true) is e
  ever-up-to test v (earlier then u calls call) part (inr before) e = ever-grows s.buffers (records_after s) test earlier v u call (ever-up-to test v earlier part before e)

  order-up-to : (list part : Trace Call) → UpTo list part → InOrder s list → InOrder s part
  order-up-to start part is order = subst (InOrder s) (sym is) order
  order-up-to (earlier then u calls call) part (inl is) order = subst (InOrder s) (sym is) order
  order-up-to (earlier then u calls call) part (inr before) order = order-up-to earlier part before order.0

whole : (list : Trace Call) → UpTo list list
whole start = refl
whole (earlier then u calls call) = inl refl

lawful-part : (s : System) (list part : Trace Call) → UpTo list part → LawfulList s list → LawfulList s part
lawful-part s list part up given = record { configured = given.configured; dated = given.dated; lawful = lawful-up-to s list part up given.lawful }

orderly-part : (s : System) (list part : Trace Call) → UpTo list part → Orderly s list → Orderly s part
orderly-part s list part up given = record { configured = given.configured; dated = given.dated; ordered = order-up-to s list part up given.ordered }

ordered : (s : System) (list : Trace Call) → LawfulList s list → Orderly s list
ordered s list given = record { configured = given.configured; dated = given.dated; ordered = lawful-order s list given.lawful }

-- ---- no refusal

-- whatever the lists are, if both are in order
compared : (s : System) (one two : Trace Call) → Orderly s one → Orderly s two
    → (u w : ℕ) → u < s.shared.n → w < s.shared.n → (u ≡ w → ⊥) → called s one u ≡ true → called s two w ≡ true
    → (word : ℕ) × (equivocators (config_at s u) w (buffer s one u) (buffer s two w) ≡ done word)
unfolding config_at with_own
compared s one two first second u w known-u known-w differ called-u called-w =
    let here = records-well-formed s one first u known-u called-u in
    let there = records-well-formed s two second w known-w called-w in (
      set_word (equivocates (config_at s u) w (buffer s one u) (buffer s two w)) 64,
      names (config_at s u) w (buffer s one u) (buffer s two w) (config-good s u first.configured known-u) (config-good s w second.configured known-w) here.0 here.1 there.0
          there.1 differ,
    )

pub never-refused : NeverRefused
never-refused s list orderly one two up_one up-two = compared s one two (orderly-part s list one up_one orderly) (orderly-part s list two up-two orderly)

-- ---- no correct node

module _ (s : System) (list : Trace Call) (given : LawfulList s list) (one two : Trace Call) (up_one : UpTo list one) (up-two : UpTo list two) (u w : ℕ)
    (fine-u : correct s u ≡ true) (fine-w : correct s w ≡ true) (called-u : called s one u ≡ true) (called-w : called s two w ≡ true) (v : ℕ) (fine : correct s v ≡ true) where
  -- a correct node that stands beside a payload in one of the two buffers has signed it, by a call of the list
  signed : (sender seq signers : ℕ) (payload : List ℕ) → in_range s.shared (slot_of_day s.shared sender seq) ≡ true
      → StandsInEither (config_at s u) w (buffer s one u) (buffer s two w) sender seq signers payload → member signers v ≡ true
      → ever s (signs s (slot_of_day s.shared sender seq) payload) list v ≡ true
  unfolding config_at with_own slot_of_day
  signed sender seq signers payload inside (inl here) m =
      ever-up-to s (signs s (slot_of_day s.shared sender seq) payload) v list one up_one
      ((worth-of-signers s one (lawful-part s list one up_one given) sender seq inside u signers payload
      (record { correct_there = fine-u; called_there = called-u; beside = here })).signed_by v fine m)
  signed sender seq signers payload inside (inr there) m =
      ever-up-to s (signs s (slot_of_day s.shared sender seq) payload) v list two up-two
      ((worth-of-signers s two (lawful-part s list two up-two given) sender seq inside w signers payload
      (record { correct_there = fine-w; called_there = called-w; beside = there })).signed_by v fine m)

  -- it signs one there, so it does not stand beside two
  never-two : Equivocated (config_at s u) w (buffer s one u) (buffer s two w) v → ⊥
  unfolding config_at with_own slot_of_day
  never-two q =
      let inside = in-range s.shared (slot_of_day s.shared q.sender q.seq) q.known q.below in
      let here = signed q.sender q.seq q.signers q.payload inside q.stands q.signed in
      let there = signed q.sender q.seq q.others q.other_payload inside q.other_stands q.other_signed in
      let acted = ever-mono s.buffers (records_after s) (signs s (slot_of_day s.shared q.sender q.seq) q.payload) (λ node call records. true) v (λ call records e. refl) list here in
      q.differ
      ((one-payload-held s list (ordered s list given) v q.sender q.seq (correct-below s v fine) acted inside).signs_one q.payload q.other_payload here there)

  not_named : (word : ℕ) → equivocators (config_at s u) w (buffer s one u) (buffer s two w) ≡ done word → member word v ≡ false
  not_named word e = go (member word v) refl
    where
      go : (m : Bool) → member word v ≡ m → m ≡ false
      go true m = absurd (never-two ((named-exactly (config_at s u) w (buffer s one u) (buffer s two w) word e v).0 m))
      go false m = refl

pub names-no-correct : NamesNoCorrect
names-no-correct s list given one two up_one up-two u w fine-u fine-w called-u called-w word e v fine =
    not_named s list given one two up_one up-two u w fine-u fine-w called-u called-w v fine word e

-- ---- so whoever is named is faulty

-- a node that is not correct is faulty
not-correct : (s : System) (v : ℕ) → v < s.shared.n → (correct s v ≡ true → ⊥) → s.faulty v ≡ true
unfolding correct
not-correct s v known wrong = go (s.faulty v) refl
  where
    go : (m : Bool) → s.faulty v ≡ m → m ≡ true
    go true e = refl
    go false e = absurd (wrong (rw (lt-ltb v s.shared.n known, e)))

pub names-faulty : NamesFaulty
unfolding config_at with_own
names-faulty s list assumed one two up_one up-two u w fine-u fine-w differ called-u called-w =
    let given = assumed-lawful s list assumed in
    let (word, e) = compared s one two (ordered s one (lawful-part s list one up_one given)) (ordered s two (lawful-part s list two up-two given)) u w (correct-below s u fine-u)
    (correct-below s w fine-w) differ called-u called-w in
    let nodes = named-are-nodes (config_at s u) w (buffer s one u) (buffer s two w) word e in (
      word,
      e,
      named-faulty word e nodes,
      le_trans
          (omega (arith, size-count word s.shared.n (within-lt word s.shared.n nodes), count-mono (member word) s.faulty s.shared.n (λ v l m. (named-faulty word e nodes v m).1)))
          assumed.few,
    )
  where
    named-faulty : (word : ℕ) → equivocators (config_at s u) w (buffer s one u) (buffer s two w) ≡ done word → within word s.shared.n ≡ true → (v : ℕ) → member word v ≡ true
        → (v < s.shared.n) × (s.faulty v ≡ true)
    named-faulty word e nodes v m =
        let known = within-says word s.shared.n v nodes m in (
          known,
          not-correct s v known
              (λ fine. true≢false (sym m ∙ not_named s list (assumed-lawful s list assumed) one two up_one up-two u w fine-u fine-w called-u called-w v fine word e)),
        )

pub names-faulty-at-end : NamesFaultyAtEnd
names-faulty-at-end s list assumed = names-faulty s list assumed list list (whole list) (whole list)
