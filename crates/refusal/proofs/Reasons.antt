-- A list of reasons, of which the first that applies counts: how a chain of checks goes through it, and what is known where
-- none applied. Every call's refusals go by these laws.
-- Assumes nothing.
use mathlib.Core.Path.{◌≡◌, refl, sym, ap, ◌∙◌}
use mathlib.Core.Bool.{Bool, true, false, not, ◌&&◌, ◌||◌, and-false, and-eq-true_iff, true≢false}
use mathlib.Core.List.{List, [], ◌∷◌, ◌++◌}
use Prim.Native.Nat.{ℕ}
use native.Mathlib.Omega.{arith}
use lib.Dec.{eqb}
use borrow.Author.Tests.{eq-eqb}
use Rattle.refusal.specs.Outcome.{Outcome, refused, done, Reason, ◌if◌, unless, after, plain, ◌and_then◌}

-- none of the reasons applies
abbrev pub Clear : List Reason → Type 0
Clear [] = Unit
Clear ((number if applies) ∷ rest) = (applies ≡ false) × Clear rest

-- a reason that is the failing of a test: the test passes, or it fails
pub passed : {b : Bool} → b ≡ true → not b ≡ false
passed e = rw e

pub failed : {b : Bool} → b ≡ false → not b ≡ true
failed e = rw e

module _ {A : Type 0} where
  -- a check that passes leaves the reasons after it
  pub pass : (number : ℕ) (rest : List Reason) (work : A) {applies : Bool} → applies ≡ false → unless ((number if applies) ∷ rest) work ≡ unless rest work
  unfolding unless
  pass number rest work e = rw e

  -- a check that fails decides the call
  pub stop : (number : ℕ) (rest : List Reason) (work : A) {applies : Bool} → applies ≡ true → unless ((number if applies) ∷ rest) work ≡ refused number
  unfolding unless
  stop number rest work e = rw e

  -- a refusal is not the work
  pub refused-not-done : (number : ℕ) (work : A) → refused number ≡ done work → ⊥
  refused-not-done number work e = let z : ◌≡◌ {A = ℕ} 0 1 = cc in omega arith

  pub clear-done : (reasons : List Reason) (work : A) → Clear reasons → unless reasons work ≡ done work
  unfolding unless
  clear-done [] work h = refl
  clear-done ((number if applies) ∷ rest) work h = rw h.0 (clear-done rest work h.1)

  -- work that was done is the work given, and no reason applied
  pub done-clear : (reasons : List Reason) (work result : A) → unless reasons work ≡ done result → Clear reasons × (work ≡ result)
  unfolding unless
  done-clear [] work result e = (tt, cc)
  done-clear ((number if true) ∷ rest) work result e = absurd (refused-not-done number result e)
  done-clear ((number if false) ∷ rest) work result e =
      let below = done-clear rest work result e in
      ((refl, below.0), below.1)

-- the outcome alone says so too
pub plain_done : {A : Type 0} (reasons : List Reason) (work : A) → plain (unless reasons work) ≡ done tt → unless reasons work ≡ done work
unfolding unless
plain_done [] work e = refl
plain_done ((number if true) ∷ rest) work e = absurd (refused-not-done number tt e)
plain_done ((number if false) ∷ rest) work e = plain_done rest work e

pub plain-refused : {A : Type 0} (outcome : Outcome A) (number : ℕ) → plain outcome ≡ refused number → outcome ≡ refused number
plain-refused (refused other) number e = let same : other ≡ number = cc in ap refused same
plain-refused (done work) number e = absurd (refused-not-done number tt (sym e))

-- the reasons decide, whatever the work is
pub done-again : {A B : Type 0} (reasons : List Reason) (first result : A) (second : B)
    → unless reasons first ≡ done result → unless reasons second ≡ done second
done-again reasons first result second e = clear-done reasons second (done-clear reasons first result e).0

pub refused-again : {A B : Type 0} (reasons : List Reason) (first : A) (second : B) (number : ℕ)
    → unless reasons first ≡ refused number → unless reasons second ≡ refused number
unfolding unless
refused-again [] first second number e = absurd (refused-not-done number first (sym e))
refused-again ((other if true) ∷ rest) first second number e = cc
refused-again ((other if false) ∷ rest) first second number e = refused-again rest first second number e

-- a refusal says its number and changes nothing
pub no-effect : {A B : Type 0} (outcome : Outcome A) (result : A → B) (before : B) (number : ℕ) → outcome ≡ refused number
    → (refused number ≡ plain outcome) × (before ≡ after outcome result before)
no-effect outcome result before number e = (rw e, rw e)

-- each of the two by itself
pub plain-told : {A : Type 0} (outcome : Outcome A) (number : ℕ) → outcome ≡ refused number → refused number ≡ plain outcome
plain-told outcome number e = rw e

pub left-alone : {A B : Type 0} (outcome : Outcome A) (result : A → B) (before : B) (number : ℕ) → outcome ≡ refused number → before ≡ after outcome result before
left-alone outcome result before number e = rw e

-- some reason with this number applies
abbrev pub asked : (number : ℕ) → List Reason → Bool
asked number [] = false
asked number ((other if applies) ∷ rest) = (eqb other number && applies) || asked number rest

-- a refusal is by a reason that applies
pub refused-asked : {A : Type 0} (reasons : List Reason) (work : A) (number : ℕ) → unless reasons work ≡ refused number → asked number reasons ≡ true
unfolding unless
refused-asked [] work number e = absurd (refused-not-done number work (sym e))
refused-asked ((other if true) ∷ rest) work number e = rw (eq-eqb other number cc)
refused-asked ((other if false) ∷ rest) work number e = rw (and-false (eqb other number)) (refused-asked rest work number e)

-- what is left depends on the result of the work given
pub after_same : {A B : Type 0} (reasons : List Reason) (work : A) (result other : A → B) (before : B) → result work ≡ other work
    → after (unless reasons work) result before ≡ after (unless reasons work) other before
unfolding unless
after_same [] work result other before e = e
after_same ((number if true) ∷ rest) work result other before e = refl
after_same ((number if false) ∷ rest) work result other before e = after_same rest work result other before e

-- reasons one after the other: the first list decides where one of its reasons applies, and the second one where none does
module _ {A B : Type 0} (second : List Reason) (some : A) (work : B) where
  pub refused-first : (first : List Reason) (number : ℕ) → unless first some ≡ refused number → unless (first ++ second) work ≡ refused number
  unfolding unless
  refused-first [] number e = absurd (refused-not-done number some (sym e))
  refused-first ((other if true) ∷ rest) number e = cc
  refused-first ((other if false) ∷ rest) number e = refused-first rest number e

  pub done_first : (first : List Reason) (result : A) → unless first some ≡ done result → unless (first ++ second) work ≡ unless second work
  unfolding unless
  done_first [] result e = refl
  done_first ((other if true) ∷ rest) result e = absurd (refused-not-done other result e)
  done_first ((other if false) ∷ rest) result e = done_first rest result e

pub clear-append : (first second : List Reason) → Clear first → Clear second → Clear (first ++ second)
clear-append [] second h k = k
clear-append ((number if applies) ∷ first) second h k = (h.0, clear-append first second h.1 k)

pub append-clear : (first second : List Reason) → Clear (first ++ second) → Clear first × Clear second
append-clear [] second h = (tt, h)
append-clear ((number if applies) ∷ first) second h =
    let below = append-clear first second h.1 in
    ((h.0, below.0), below.1)

-- the number of every reason passes a test
abbrev pub numbers_pass : (ℕ → Bool) → List Reason → Bool
numbers_pass test [] = true
numbers_pass test ((number if applies) ∷ rest) = test number && numbers_pass test rest

-- what a call may come to: a refusal by a number that passes the test, or work of which the claim holds
abbrev pub Comes : {A : Type 0} → (ℕ → Bool) → (A → Type 0) → Outcome A → Type 0
Comes test claim (refused number) = test number ≡ true
Comes test claim (done work) = claim work

-- reasons refuse by their own numbers and by no others
pub unless-comes : {A : Type 0} (test : ℕ → Bool) (claim : A → Type 0) (reasons : List Reason) (work : A) → numbers_pass test reasons ≡ true → claim work
    → Comes test claim (unless reasons work)
unfolding unless
unless-comes test claim [] work e h = h
unless-comes test claim ((number if true) ∷ rest) work e h = ((and-eq-true_iff (test number) (numbers_pass test rest)).0 e).0
unless-comes test claim ((number if false) ∷ rest) work e h =
    unless-comes test claim rest work ((and-eq-true_iff (test number) (numbers_pass test rest)).0 e).1 h

-- and one outcome after the other by the numbers of both
pub then-comes : {A B : Type 0} (test : ℕ → Bool) (claim : B → Type 0) (outcome : Outcome A) (next : A → Outcome B)
    → Comes test (λ _. Unit) outcome → ((work : A) → Comes test claim (next work)) → Comes test claim (outcome and_then next)
then-comes test claim (refused number) next h later = h
then-comes test claim (done work) next h later = later work

-- a refusal by a number that none of the first reasons has passed them all
pub refused-clear : {A : Type 0} (number : ℕ) (first second : List Reason) (work : A) → numbers_pass (λ k. not (eqb k number)) first ≡ true
    → unless (first ++ second) work ≡ refused number → Clear first
unfolding unless
refused-clear number [] second work others e = tt
refused-clear number ((other if true) ∷ rest) second work others e =
    let same : other ≡ number = cc in
    absurd (true≢false (sym ((and-eq-true_iff (not (eqb other number)) (numbers_pass (λ k. not (eqb k number)) rest)).0 others).0 ∙ rw (eq-eqb other number same)))
refused-clear number ((other if false) ∷ rest) second work others e =
    (refl, refused-clear number rest second work ((and-eq-true_iff (not (eqb other number)) (numbers_pass (λ k. not (eqb k number)) rest)).0 others).1 e)
