-- R19.6 to R19.8 and R19.12: two nodes' records side by side, on a list of calls as RULES section 14 has them. The two buffers are those that each node had at some
-- moment of the list; at its end both are those that the list leaves. They are proved in proofs/Correct.antt.
-- Assumes nothing.
use Rattle.std.specs.Prelude.{◌≡◌, ◌⊎◌, true, false, ℕ, ◌≤◌, ◌<◌}
use Rattle.signers.specs.Signers.{member, size}
use Rattle.refusal.specs.Outcome.{Outcome, done}
use Rattle.protocol.specs.Trace.{Trace, start, ◌then◌calls◌}
use Rattle.system.specs.Demand3.{Call, System, config_at, correct, buffer, called, Assumed}
use Rattle.system.specs.Order.{Orderly}
use Rattle.system.specs.Notes.{LawfulList}
use Rattle.equivocators.specs.Equivocators.{equivocators}

-- the list up to one of its calls, or up to its end
abbrev pub UpTo : (list part : Trace Call) → Type 0
UpTo start part = part ≡ start
UpTo (earlier then node calls call) part = (part ≡ (earlier then node calls call)) ⊎ UpTo earlier part

module _ (s : System) (one two : Trace Call) (u w : ℕ) where
  -- what comparing gives of the buffer that the calls `one` leave at node u, and the one that `two` leave at node w
  abbrev pub equivocators_at : Outcome ℕ
  equivocators_at = equivocators (config_at s u) w (buffer s one u) (buffer s two w)

  -- a word; each node that it names is one of the n and faulty; and at most t are named
  abbrev pub NamesOnlyFaulty : Type 0
  NamesOnlyFaulty =
      (word : ℕ)
      × (equivocators_at ≡ done word)
      × ((v : ℕ) → member word v ≡ true → (v < s.shared.n) × (s.faulty v ≡ true))
      × (size word ≤ s.shared.t)

-- R19.7, R19.8: at the end of a list of demand 3, two different correct nodes that were called give a word, and it names none but faulty nodes, at most t.
abbrev pub NamesFaultyAtEnd : Type 0
NamesFaultyAtEnd =
    (s : System) (list : Trace Call) → Assumed s list
    → (u w : ℕ) → correct s u ≡ true → correct s w ≡ true → (u ≡ w → ⊥) → called s list u ≡ true → called s list w ≡ true
    → NamesOnlyFaulty s list list u w

-- R19.12: and so at any two moments.
abbrev pub NamesFaulty : Type 0
NamesFaulty =
    (s : System) (list : Trace Call) → Assumed s list
    → (one two : Trace Call) → UpTo list one → UpTo list two
    → (u w : ℕ) → correct s u ≡ true → correct s w ≡ true → (u ≡ w → ⊥) → called s one u ≡ true → called s two w ≡ true
    → NamesOnlyFaulty s one two u w

-- R19.6: that the records are compared needs no more than that the list is in order: any two different nodes that were called will do, whoever is faulty and
-- whatever is forged.
abbrev pub NeverRefused : Type 0
NeverRefused =
    (s : System) (list : Trace Call) → Orderly s list
    → (one two : Trace Call) → UpTo list one → UpTo list two
    → (u w : ℕ) → u < s.shared.n → w < s.shared.n → (u ≡ w → ⊥) → called s one u ≡ true → called s two w ≡ true
    → (word : ℕ) × (equivocators_at s one two u w ≡ done word)

-- R19.7: and that the records of correct nodes name no correct node asks for no bound on the faulty ones.
abbrev pub NamesNoCorrect : Type 0
NamesNoCorrect =
    (s : System) (list : Trace Call) → LawfulList s list
    → (one two : Trace Call) → UpTo list one → UpTo list two
    → (u w : ℕ) → correct s u ≡ true → correct s w ≡ true → called s one u ≡ true → called s two w ≡ true
    → (word : ℕ) → equivocators_at s one two u w ≡ done word
    → (v : ℕ) → correct s v ≡ true → member word v ≡ false
