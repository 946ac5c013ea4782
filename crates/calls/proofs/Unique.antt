-- R17.1: an answer is known by its number and values, so the contracts of broadcasting and receiving leave one answer. The count of an announcement
-- is that of its record's signers.
-- Assumes nothing.
use mathlib.Core.Path.{◌≡◌, refl, sym, ap, ◌∙◌}
use Prim.Native.Nat.{ℕ}
use lib.Count.{ones}
use Rattle.signers.proofs.Members.{nobody, size-insert}
use Rattle.std.specs.Prelude.{Result}
use Rattle.refusal.specs.Outcome.{Outcome}
use Rattle.refusal.specs.declared.Refusal.{Refusal}
use Rattle.refusal.proofs.Unique.{result_from, result-back}
use Rattle.protocol.specs.Update.{Answer, announced_by}
use Rattle.record.specs.Record.{answer_of}
use Rattle.record.proofs.Unique.{answer_from, answer-back}
use Rattle.calls.specs.Broadcast.{announcement_of, AnnouncedCounts}
use Rattle.calls.specs.Receive.{receipt_of}
use Rattle.calls.specs.declared.Receipt.{Receipt}

-- the answer of each number and values
abbrev pub announcement : Outcome ℕ → Result ℕ Refusal
announcement outcome = result_from (λ seq. seq) outcome

abbrev pub receipt_from : Answer × ℕ → Receipt
receipt_from told = record { answer = answer_from told.0; count = told.1 }

abbrev pub receipt : Outcome (Answer × ℕ) → Result Receipt Refusal
receipt outcome = result_from receipt_from outcome

-- each answer is that of its own number and values
pub announcement-back : (a : Result ℕ Refusal) → announcement (announcement_of a) ≡ a
announcement-back a = result-back (λ seq. seq) (λ seq. seq) (λ seq. refl) a

pub receipt-back : (a : Result Receipt Refusal) → receipt (receipt_of a) ≡ a
receipt-back a =
    result-back (λ (r : Receipt). (answer_of r.answer, r.count)) receipt_from
    (λ r. ap {B = Receipt} (λ w. record { answer = w; count = r.count }) (answer-back r.answer)) a

pub announcement-one : (a b : Result ℕ Refusal) → announcement_of a ≡ announcement_of b → a ≡ b
announcement-one a b e = sym (announcement-back a) ∙ ap announcement e ∙ announcement-back b

pub receipt-one : (a b : Result Receipt Refusal) → receipt_of a ≡ receipt_of b → a ≡ b
receipt-one a b e = sym (receipt-back a) ∙ ap receipt e ∙ receipt-back b

-- ---- the count of an announcement

-- the node itself is added to nobody, which counts 0
pub announced-counts : AnnouncedCounts
unfolding ones announced_by
announced-counts own seq payload h = sym (size-insert 0 own h (nobody own))
