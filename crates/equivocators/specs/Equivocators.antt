-- RULES section 19: which nodes stand beside two payloads of one slot, by the records of two nodes.
-- Assumes nothing.
use Rattle.std.specs.Prelude.{Bool, false, not, ◌||◌, List, [], ◌∷◌, ◌++◌, ℕ, zero, suc, eqb, Result}
use Rattle.signers.specs.Sets.{NodeSet}
use Rattle.signers.specs.Words.{set_word}
use Rattle.refusal.specs.declared.Refusal.{Refusal}
use Rattle.refusal.specs.Refusal.{outcome_of}
use Rattle.refusal.specs.Outcome.{Outcome, Reason, ◌if◌, unless}
use Rattle.config.specs.declared.Config.{Config}
use Rattle.config.specs.Config.{good, slots, slot_of_day, with_own}
use Rattle.calls.specs.Records.{wrong_size}
use Rattle.calls.specs.WellFormed.{all_well_formed}
use Rattle.calls.specs.Algorithm.{record_of}
use Rattle.equivocators.specs.Entries.{Entry, entries, signed_two}

-- the test passes for some number below n
unfoldable pub some_below : (test : (k : ℕ) → Bool) (n : ℕ) → Bool
some_below test zero = false
some_below test (suc n) = some_below test n || test n

-- `first` has the records of the configuration's own node, and `second` those of the node `other`, which has the same configuration but for its own number
module _ (config : Config) (other : ℕ) (first second : List ℕ) where
  -- what stands in both records of a slot
  unfoldable pub slot_entries : (sender seq : ℕ) → List Entry
  slot_entries sender seq =
      entries (record_of config (slot_of_day config sender seq) first) ++ entries (record_of (with_own config other) (slot_of_day config sender seq) second)

  -- R19.2: in some slot, the node stands in two halves beside two different payloads
  unfoldable pub equivocates : NodeSet
  equivocates node = some_below (λ sender. some_below (λ seq. signed_two (slot_entries sender seq) node) slots) config.n

  -- R19.3: what it tests, the first buffer before the second
  unfoldable pub equivocators_reasons : List Reason
  equivocators_reasons =
      (1 if not (good config))
      ∷ (1 if not (good (with_own config other)))
      ∷ (20 if wrong_size config first)
      ∷ (21 if not (all_well_formed config first))
      ∷ (20 if wrong_size (with_own config other) second)
      ∷ (21 if not (all_well_formed (with_own config other) second))
      ∷ (28 if eqb config.own other)
      ∷ []

  -- R19.2: a word of 64 bits, in which each node that does so has its bit
  unfoldable pub equivocators : Outcome ℕ
  equivocators = unless equivocators_reasons (set_word equivocates 64)

-- the word of each case, or the number of the refusal (R17.3)
abbrev pub naming_of : Result ℕ Refusal → Outcome ℕ
naming_of = outcome_of (λ word. word)
