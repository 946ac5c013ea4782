-- The answer of a step is what the step's call gives; any row that is printed has room in what is kept for one; and a step leaves the records
-- their length. From the definitions of specs/Step.antt, the twenty digits that a number has at most, and the calls' own laws.
-- Assumes nothing.
use mathlib.Core.Path.{◌≡◌, refl, ap, ◌∙◌}
use mathlib.Core.List.{List, ◌++◌, append_assoc}
use Prim.Native.Nat.{ℕ, ◌+◌, ◌≤◌}
use native.Mathlib.Omega.{arith}
use lib.ListN.{length, length-append}
use Rattle.refusal.specs.Outcome.{Outcome, refused, done, ◌and_then◌}
use Rattle.payload.specs.Payload.{bytes}
use Rattle.config.specs.declared.Config.{Config}
use Rattle.protocol.specs.Update as protocol
use Rattle.protocol.specs.Update.{announced, kept, signed, delivered, noted}
use Rattle.calls.proofs.Preserved.{broadcast-length, receive-length}
use Rattle.text.specs.Text.{ascii, decimal, written}
use Rattle.text.proofs.DecimalDigits.{decimal-short}
use Rattle.row.specs.declared.Step.{Step}
use Rattle.row.specs.declared.Step.TheVariants as step
use Rattle.step.specs.declared.Answer.{Answer}
use Rattle.step.specs.declared.Answer.TheVariants as answer
use Rattle.step.specs.Step.{step_bundle, answer_of, records_by, Answers, answered, act_of, act_by, answer_text, answer_word, step_text, unread_text, row_space, blank_out}
use Rattle.text.proofs.WrittenTexts.{Puts, room-left, ◌then◌}

-- ---- what an answer says

module _ (w : Config) where
  -- it is what the step's call gives,
  pub answers-says : (s : Step) (records : List ℕ) (r : Answer) → Answers w s records r → answered r ≡ answer_of w s records
  unfolding answer_of
  answers-says (step.Broadcast payload) records (answer.Broadcast announcement) e =
      ap (λ (o : Outcome ℕ). o and_then λ seq. done (announced, 1)) e
  answers-says (step.Broadcast payload) records (answer.Receive receipt) e = absurd e
  answers-says (step.Receive sender seq signers payload) records (answer.Broadcast announcement) e = absurd e
  answers-says (step.Receive sender seq signers payload) records (answer.Receive receipt) e = e

  -- and has its act
  pub answers-act : (s : Step) (records : List ℕ) (r : Answer) → Answers w s records r → act_by r ≡ act_of s
  answers-act (step.Broadcast payload) records (answer.Broadcast announcement) e = refl
  answers-act (step.Broadcast payload) records (answer.Receive receipt) e = absurd e
  answers-act (step.Receive sender seq signers payload) records (answer.Broadcast announcement) e = absurd e
  answers-act (step.Receive sender seq signers payload) records (answer.Receive receipt) e = refl

-- ---- how long a row is

-- an act, of a step and of an answer,
pub act-length : (s : Step) → length (act_of s) ≡ 3
unfolding ascii
act-length (step.Broadcast payload) = refl
act-length (step.Receive sender seq signers payload) = refl

pub act-by-length : (r : Answer) → length (act_by r) ≡ 3
unfolding ascii
act-by-length (answer.Broadcast announcement) = refl
act-by-length (answer.Receive receipt) = refl

-- a count with the line's end,
pub count-length : (n : ℕ) → length (decimal n ++ ascii "\n") ≤ 21
unfolding ascii
count-length n = omega (arith, decimal-short n, length-append (decimal n) (ascii "\n"))

word-length : (a : protocol.Answer) → length (answer_word a) ≤ 9
unfolding ascii
word-length announced = omega arith
word-length kept = omega arith
word-length signed = omega arith
word-length delivered = omega arith
word-length noted = omega arith

-- what stands after the node,
answer-length : (o : Outcome (protocol.Answer × ℕ)) → length (ascii " " ++ answer_text o) ≤ 34
unfolding ascii
answer-length (refused number) = omega (arith, decimal-short number, length-append (decimal number) (ascii " 0\n"))
answer-length (done reply) =
    omega
    (arith, word-length reply.0, count-length reply.1, length-append (answer_word reply.0) (ascii " 0 " ++ (decimal reply.1 ++ ascii "\n")))

-- so it is written where there is room for any,
pub answer-wrote : (o : Outcome (protocol.Answer × ℕ)) {at : ℕ} {out : List ℕ} {stop : ℕ} {after : List ℕ} → Puts at (ascii " " ++ answer_text o) out stop after
    → at + 34 ≤ length out → (stop ≡ at + length (ascii " " ++ answer_text o)) × (after ≡ written at (ascii " " ++ answer_text o) out)
answer-wrote o p room = p.wrote (omega (arith, answer-length o))

-- an answer's word, with what stands around it, and its count
pub word-answer : (a : protocol.Answer) (n : ℕ) → (ascii " " ++ (answer_word a ++ ascii " 0 ")) ++ (decimal n ++ ascii "\n") ≡ ascii " " ++ answer_text (done (a, n))
unfolding ascii
word-answer announced n = refl
word-answer kept n = refl
word-answer signed n = refl
word-answer delivered n = refl
word-answer noted n = refl

module _ (ordinal node : ℕ) (act : List ℕ) (three : length act ≡ 3) where
  -- what stands before that,
  front_length : length (decimal ordinal ++ (act ++ decimal node)) ≤ 43
  front_length =
      omega (arith, three, decimal-short ordinal, decimal-short node, length-append (decimal ordinal) (act ++ decimal node), length-append act (decimal node))

  -- so there is room for an answer after it,
  pub front-room : {at : ℕ} {out : List ℕ} {s₁ : ℕ} {o₁ : List ℕ} {s₂ : ℕ} {o₂ : List ℕ} {s₃ : ℕ} {o₃ : List ℕ}
      → Puts at (decimal ordinal) out s₁ o₁ → Puts s₁ act o₁ s₂ o₂ → Puts s₂ (decimal node) o₂ s₃ o₃ → at + row_space ≤ length out → s₃ + 34 ≤ length o₃
  front-room first second third room = room-left 34 (first then second then third) (omega (arith, front_length))

  -- and the whole row, of a step that is read
  pub step-length : (reply : Outcome (protocol.Answer × ℕ)) → length (step_text ordinal node act reply) ≤ row_space
  unfolding step_text
  step-length reply =
      let rest : List ℕ = ascii " " ++ answer_text reply in
      let whole : (decimal ordinal ++ (act ++ decimal node)) ++ rest ≡ decimal ordinal ++ (act ++ (decimal node ++ rest)) =
      append_assoc (decimal ordinal) (act ++ decimal node) rest ∙ ap (λ (r : List ℕ). decimal ordinal ++ r) (append_assoc act (decimal node) rest) in
      omega (arith, front_length, answer-length reply, length-append (decimal ordinal ++ (act ++ decimal node)) rest, ap length whole)

-- and of one that is not
pub unread-length : (ordinal : ℕ) → length (unread_text ordinal) ≤ row_space
unfolding unread_text ascii
unread-length ordinal = omega (arith, decimal-short ordinal, length-append (decimal ordinal) (ascii " - - unread 0 0\n"))

-- ---- the records

-- a step leaves them their length
pub records-length : (w : Config) (s : Step) (records : List ℕ) → length (records_by w s records) ≡ length records
unfolding records_by
records-length w (step.Broadcast payload) records = broadcast-length w (bytes payload) records blank_out
records-length w (step.Receive sender seq signers payload) records = receive-length w (step_bundle w sender seq signers payload) records blank_out
