-- The C interface: the word of the nodes that are named, and why there is none (R11.7), and which refusals a host can see (R11.3). The laws are proved in
-- proofs/Codes.antt.
-- Assumes nothing.
use Rattle.std.specs.Prelude.{◌≡◌, true, List, [], ◌∷◌, ℕ}
use Rattle.refusal.specs.Outcome.{Outcome, refused, done}
use Rattle.config.specs.declared.Config.{Config}
use Rattle.mbrb.specs.Code.{opened_code, listed}
use Rattle.equivocators.specs.Equivocators.{equivocators}

-- R11.7: the word, and 0 where the records are not compared
abbrev pub named_word : Outcome ℕ → ℕ
named_word (refused number) = 0
named_word (done word) = word

-- the refusal's number, and 0 where they are, as opening has it
abbrev pub check_code : Outcome ℕ → ℕ
check_code outcome = opened_code outcome

-- R11.3: its four refusals. None of them is 0, so that a check of 0 says that the records were compared.
unfoldable pub equivocators_refusals : List ℕ
equivocators_refusals = 1 ∷ 20 ∷ 21 ∷ 28 ∷ []

abbrev pub RefusalsListed : Type 0
RefusalsListed =
    (config : Config) (other : ℕ) (first second : List ℕ) (number : ℕ) → equivocators config other first second ≡ refused number
    → listed equivocators_refusals number ≡ true

-- R11.7: a word that is not 0 needs no check; with a check of 0 the word is the one that is asked for
abbrev pub WordNeedsNoCheck : Type 0
WordNeedsNoCheck =
    (config : Config) (other : ℕ) (first second : List ℕ)
    → ((named_word (equivocators config other first second) ≡ 0 → ⊥) → check_code (equivocators config other first second) ≡ 0)
    × (check_code (equivocators config other first second) ≡ 0 → equivocators config other first second ≡ done (named_word (equivocators config other first second)))
