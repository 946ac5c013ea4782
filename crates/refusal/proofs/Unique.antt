-- Each number is one reason's, so that a contract which gives the number of an answer leaves one answer.
-- Assumes nothing.
use mathlib.Core.Path.{◌≡◌, refl, sym, ap, ◌∙◌}
use mathlib.Core.List.{List, [], ◌∷◌, ◌++◌}
use Prim.Native.Nat.{ℕ}
use lib.ListN.{get_or, replicate}
use Rattle.std.specs.Prelude.{Result, Ok, Err, IfOk}
use Rattle.refusal.specs.Outcome.{Outcome, refused, done}
use Rattle.refusal.specs.Refusal.{number_of, outcome_of, verdict_of}
use Rattle.refusal.proofs.Reasons.{refused-not-done}
use Rattle.refusal.specs.declared.Refusal.{Refusal}
use Rattle.refusal.specs.declared.Refusal.TheVariants.{BadConfig, BundleLength, ReservedBytes, OtherDay, SenderRange, SeqRange, SignerRange, SenderUnsigned, PayloadLength, OutLength, RecordsLength, MalformedRecord, AlreadyDelivered, OwnSignatureUnknown, OtherPayload, NoFreeSlot, NotDelivered, TooFewSetpoints, SameNode}

-- the reasons by their numbers; a number of none stands for the first
unfoldable pub by_number : List Refusal
by_number =
    BadConfig
    ∷ BadConfig
    ∷ BundleLength
    ∷ ReservedBytes
    ∷ OtherDay
    ∷ SenderRange
    ∷ SeqRange
    ∷ SignerRange
    ∷ SenderUnsigned
    ∷ PayloadLength
    ∷ OutLength
    ∷ (replicate 9 BadConfig
    ++ (RecordsLength
    ∷ MalformedRecord
    ∷ AlreadyDelivered
    ∷ OwnSignatureUnknown
    ∷ OtherPayload
    ∷ NoFreeSlot
    ∷ NotDelivered
    ∷ TooFewSetpoints
    ∷ SameNode
    ∷ []))

-- the reason of a number
unfoldable pub reason_of : ℕ → Refusal
reason_of number = get_or by_number number BadConfig

pub found : (r : Refusal) → reason_of (number_of r) ≡ r
unfolding reason_of by_number
found BadConfig = refl
found BundleLength = refl
found ReservedBytes = refl
found OtherDay = refl
found SenderRange = refl
found SeqRange = refl
found SignerRange = refl
found SenderUnsigned = refl
found PayloadLength = refl
found OutLength = refl
found RecordsLength = refl
found MalformedRecord = refl
found AlreadyDelivered = refl
found OwnSignatureUnknown = refl
found OtherPayload = refl
found NoFreeSlot = refl
found NotDelivered = refl
found TooFewSetpoints = refl
found SameNode = refl

pub number-one : (a b : Refusal) → number_of a ≡ number_of b → a ≡ b
number-one a b e = sym (found a) ∙ ap reason_of e ∙ found b

pub refused-number : {A : Type 0} (a b : ℕ) → ◌≡◌ {A = Outcome A} (refused a) (refused b) → a ≡ b
refused-number a b e = cc

done-work : {A : Type 0} (x y : A) → ◌≡◌ {A = Outcome A} (done x) (done y) → x ≡ y
done-work x y e = cc

-- A result is known by its outcome where a value is known by what it says. Each call's answer is such a result.
pub outcome-one_if : {A B : Type 0} (says : A → B) (Q : A → Type 0) → ((x y : A) → Q x → Q y → says x ≡ says y → x ≡ y)
    → (a b : Result A Refusal) → IfOk a Q → IfOk b Q → outcome_of says a ≡ outcome_of says b → a ≡ b
outcome-one_if says Q known (Ok x) (Ok y) p q e = ap Ok (known x y p q (done-work (says x) (says y) e))
outcome-one_if says Q known (Ok x) (Err s) p q e = absurd (refused-not-done (number_of s) (says x) (sym e))
outcome-one_if says Q known (Err r) (Ok y) p q e = absurd (refused-not-done (number_of r) (says y) e)
outcome-one_if {B = B} says Q known (Err r) (Err s) p q e = ap Err (number-one r s (refused-number {A = B} (number_of r) (number_of s) e))

pub outcome-one : {A B : Type 0} (says : A → B) → ((x y : A) → says x ≡ says y → x ≡ y)
    → (a b : Result A Refusal) → outcome_of says a ≡ outcome_of says b → a ≡ b
outcome-one says known (Ok x) (Ok y) e = outcome-one_if says (λ _. Unit) (λ x y p q. known x y) (Ok x) (Ok y) tt tt e
outcome-one says known (Ok x) (Err s) e = outcome-one_if says (λ _. Unit) (λ x y p q. known x y) (Ok x) (Err s) tt tt e
outcome-one says known (Err r) (Ok y) e = outcome-one_if says (λ _. Unit) (λ x y p q. known x y) (Err r) (Ok y) tt tt e
outcome-one says known (Err r) (Err s) e = outcome-one_if says (λ _. Unit) (λ x y p q. known x y) (Err r) (Err s) tt tt e

-- the result that an outcome tells; no other one tells it
unfoldable pub result_from : {A B : Type 0} → (B → A) → Outcome B → Result A Refusal
result_from back (refused number) = Err (reason_of number)
result_from back (done told) = Ok (back told)

pub result-back : {A B : Type 0} (says : A → B) (back : B → A) → ((x : A) → back (says x) ≡ x)
    → (r : Result A Refusal) → result_from back (outcome_of says r) ≡ r
unfolding result_from
result-back says back known (Ok x) = ap Ok (known x)
result-back says back known (Err reason) = ap Err (found reason)

pub verdict-one : (a b : Result Unit Refusal) → verdict_of a ≡ verdict_of b → a ≡ b
verdict-one a b e = outcome-one (λ _. tt) (λ x y same. refl) a b e
