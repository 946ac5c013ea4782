-- The word of those who are named, put together slot by slot, which costs less to compute than a test for each of 64 nodes. For records that are written out.
-- Assumes nothing.
use mathlib.Core.Path.{◌≡◌, refl, sym, ap, ap₂, ◌∙◌}
use mathlib.Core.Bool.{Bool, true, false, cond, ◌||◌}
use mathlib.Core.List.{List, [], ◌∷◌}
use Prim.Native.Nat.{ℕ, zero, suc, ◌<◌, ◌^◌}
use native.Mathlib.Nat.{le_of_eq}
use Rattle.octets.specs.Octets.{same}
use Rattle.signers.specs.Signers.{member, union, common}
use Rattle.signers.proofs.Members.{nobody, member_union, word_same}
use Rattle.refusal.specs.Outcome.{unless}
use Rattle.config.specs.declared.Config.{Config}
use Rattle.config.specs.Config.{slots}
use Rattle.equivocators.specs.Entries.{Entry, signed_both, signed_beside, signed_two}
use Rattle.equivocators.specs.Equivocators.{some_below, slot_entries, equivocates, equivocators_reasons, equivocators}
use Rattle.equivocators.specs.Inner.{Names}
use Rattle.equivocators.proofs.Entries.{both-same, both-other}

unfoldable pub word_both : (a b : Entry) → ℕ
word_both a b = cond (same a.payload b.payload) 0 (common a.signers b.signers)

unfoldable pub word_beside : (a : Entry) (others : List Entry) → ℕ
word_beside a [] = 0
word_beside a (b ∷ others) = union (word_both a b) (word_beside a others)

unfoldable pub word_two : List Entry → ℕ
word_two [] = 0
word_two (a ∷ others) = union (word_beside a others) (word_two others)

unfoldable pub word_below : (words : ℕ → ℕ) (n : ℕ) → ℕ
word_below words zero = 0
word_below words (suc n) = union (word_below words n) (words n)

unfoldable pub word_all : (config : Config) (other : ℕ) (first second : List ℕ) → ℕ
word_all config other first second = word_below (λ sender. word_below (λ seq. word_two (slot_entries config other first second sender seq)) slots) config.n

both-names : (a b : Entry) → Names (signed_both a b) (word_both a b)
unfolding word_both
both-names a b node = go (same a.payload b.payload) refl
  where
    go : (m : Bool) → same a.payload b.payload ≡ m → member (cond m 0 (common a.signers b.signers)) node ≡ signed_both a b node
    go true e = nobody node ∙ sym (both-same a b node e)
    go false e = both-other a b node e

beside-names : (a : Entry) (others : List Entry) → Names (signed_beside a others) (word_beside a others)
unfolding word_beside signed_beside
beside-names a [] node = nobody node
beside-names a (b ∷ others) node = member_union (word_both a b) (word_beside a others) node ∙ ap₂ ◌||◌ (both-names a b node) (beside-names a others node)

two-names : (entries : List Entry) → Names (signed_two entries) (word_two entries)
unfolding word_two signed_two
two-names [] node = nobody node
two-names (a ∷ others) node = member_union (word_beside a others) (word_two others) node ∙ ap₂ ◌||◌ (beside-names a others node) (two-names others node)

below_names : (words : ℕ → ℕ) (names : ℕ → ℕ → Bool) → ((k : ℕ) → Names (names k) (words k)) → (n : ℕ) → Names (λ node. some_below (λ k. names k node) n) (word_below words n)
unfolding word_below some_below
below_names words names each zero node = nobody node
below_names words names each (suc n) node = member_union (word_below words n) (words n) node ∙ ap₂ ◌||◌ (below_names words names each n node) (each n node)

module _ (config : Config) (other : ℕ) (first second : List ℕ) where
  all-names : Names (equivocates config other first second) (word_all config other first second)
  unfolding equivocates word_all
  all-names =
      below_names (λ sender. word_below (λ seq. word_two (slot_entries config other first second sender seq)) slots)
      (λ sender node. some_below (λ seq. signed_two (slot_entries config other first second sender seq) node) slots)
      (λ sender.
      below_names (λ seq. word_two (slot_entries config other first second sender seq)) (λ seq. signed_two (slot_entries config other first second sender seq))
      (λ seq. two-names (slot_entries config other first second sender seq)) slots)
      config.n

  -- so the call gives that word, where no reason applies
  pub computed : (word : ℕ) → word_all config other first second ≡ word → word < 2 ^ 64
      → equivocators config other first second ≡ unless (equivocators_reasons config other first second) word
  unfolding equivocators
  computed word is fits =
      ap (unless (equivocators_reasons config other first second))
      (sym (word_same word (equivocates config other first second) 64 (le_of_eq refl) fits (λ u l. ap (λ (w : ℕ). member w u) (sym is) ∙ all-names u)))
