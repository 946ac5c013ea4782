-- Laws of the codes: a refusal is one of four, and none of them is 0. Assumes nothing.
use mathlib.Core.Path.{◌≡◌, refl, sym, ap, ◌∙◌, subst}
use mathlib.Core.Bool.{true, true≢false}
use Prim.Native.Nat.{ℕ}
use Rattle.refusal.specs.Outcome.{Outcome, refused, done, plain}
use Rattle.refusal.proofs.Reasons.{Comes, unless-comes}
use Rattle.signers.specs.Words.{set_word}
use Rattle.mbrb.specs.Code.{opened_code, listed}
use Rattle.equivocators.specs.Equivocators.{equivocates, equivocators_reasons, equivocators}
use Rattle.mbrb_equivocators.specs.Code.{named_word, check_code, equivocators_refusals, RefusalsListed, WordNeedsNoCheck}

pub refusals-listed : RefusalsListed
unfolding equivocators equivocators_reasons listed equivocators_refusals
refusals-listed config other first second number is =
    subst (Comes (listed equivocators_refusals) (λ (word : ℕ). Unit)) is
    (unless-comes (listed equivocators_refusals) (λ (word : ℕ). Unit) (equivocators_reasons config other first second) (set_word (equivocates config other first second) 64) refl tt)

-- 0 is no refusal
not_listed : (number : ℕ) → number ≡ 0 → listed equivocators_refusals number ≡ true → ⊥
unfolding listed equivocators_refusals
not_listed number e l = true≢false (sym l ∙ ap (listed equivocators_refusals) e)

pub word-needs-no-check : WordNeedsNoCheck
word-needs-no-check config other first second = go (equivocators config other first second) refl
  where
    go : (outcome : Outcome ℕ) → equivocators config other first second ≡ outcome
        → ((named_word outcome ≡ 0 → ⊥) → check_code outcome ≡ 0) × (check_code outcome ≡ 0 → outcome ≡ done (named_word outcome))
    go (refused number) is = ((λ some. absurd (some refl)), (λ none. absurd (not_listed number none (refusals-listed config other first second number is))))
    go (done word) is = ((λ some. refl), (λ none. refl))

-- the code goes by the outcome alone
pub plain_code : (outcome : Outcome ℕ) → opened_code (plain outcome) ≡ check_code outcome
plain_code (refused number) = refl
plain_code (done word) = refl
