-- R5.1 and R5.2: what a call gives is the number of the first reason that applies, or else the result of its work.
-- Assumes nothing.
use Rattle.std.specs.Prelude.{Bool, cond, List, [], ◌∷◌, ℕ}

pub data Outcome (A : Type 0) : Type 0 where
  refused : ℕ → Outcome A
  done : A → Outcome A

-- a reason by its number, and whether it applies
infix 20 ◌if◌
pub data Reason : Type 0 where
  ◌if◌ : ℕ → Bool → Reason

module _ {A : Type 0} where
  -- R5.2: the first of the reasons that applies, and the work if none does
  unfoldable pub unless : List Reason → A → Outcome A
  unless [] work = done work
  unless ((number if applies) ∷ rest) work = cond applies (refused number) (unless rest work)

  -- one outcome after the other: what the first refuses, both refuse
  infixl 5 ◌and_then◌
  abbrev pub ◌and_then◌ : {B : Type 0} → Outcome A → (A → Outcome B) → Outcome B
  refused number and_then next = refused number
  done work and_then next = next work

  -- what there is afterwards: the result of the work; where the call refused, what there was before (R5.1)
  abbrev pub after : {B : Type 0} → Outcome A → (A → B) → B → B
  after (refused number) result before = before
  after (done work) result before = result work

  -- the outcome alone, without the work's result
  abbrev pub plain : Outcome A → Outcome Unit
  plain (refused number) = refused number
  plain (done work) = done tt

-- the first of the reasons that applies, with no work of its own
abbrev pub checked : List Reason → Outcome Unit
checked reasons = unless reasons tt
