-- What a step of a run does at its node (R15.8), and what is printed for it (R16.2, R16.3). A step is one of the calls that RULES section 14 is about.
-- Assumes nothing.
use Rattle.std.specs.Prelude.{◌≡◌, Bool, cond, List, ◌++◌, ℕ, ◌+◌, leb, length, replicate, Ok}
use Rattle.refusal.specs.Outcome.{Outcome, refused, done, ◌and_then◌}
use Rattle.payload.specs.declared.Payload.{Payload}
use Rattle.payload.specs.Payload.{bytes}
use Rattle.config.specs.declared.Config.{Config}
use Rattle.bundle.specs.Bundle.{bundle_of, header_of_day, bundle_size}
use Rattle.protocol.specs.Update as protocol
use Rattle.protocol.specs.Update.{announced, kept, signed, delivered, noted}
use Rattle.calls.specs.Broadcast.{broadcast, broadcast_records, broadcast_out, announcement_of, announcement_count}
use Rattle.calls.specs.Receive.{receive, receive_records, receive_out, reported, receipt_of}
use Rattle.text.specs.Text.{ascii, decimal, written}
use Rattle.row.specs.declared.Step.{Step}
use Rattle.row.specs.declared.Step.TheVariants as step
use Rattle.system.specs.Demand3.{Call, Broadcast, Receive}
use Rattle.step.specs.declared.Answer.{Answer}
use Rattle.step.specs.declared.Answer.TheVariants as answer

-- the outgoing bytes that the program gives to each call
abbrev pub blank_out : List ℕ
blank_out = replicate bundle_size 0

-- the bundle that a row of act B stands for, in a slot of the configuration's day
abbrev pub step_bundle : Config → (sender seq signers : ℕ) (payload : Payload) → List ℕ
step_bundle config sender seq signers payload = bundle_of (header_of_day config sender seq signers) (bytes payload)

-- R15.8: the call that a step stands for. Act A broadcasts, act B hands over a bundle of the configuration's day.
unfoldable pub call_of : Config → Step → Call
call_of config (step.Broadcast payload) = Broadcast (bytes payload) blank_out
call_of config (step.Receive sender seq signers payload) = Receive (step_bundle config sender seq signers payload) blank_out

-- the call of a step over any outgoing bytes
module _ (config : Config) (out : List ℕ) where
  -- an answer is that of the step's own call, with the number that announcing used
  abbrev pub AnswersOver : Step → List ℕ → Answer → Type 0
  AnswersOver (step.Broadcast payload) records (answer.Broadcast announcement) =
      announcement_of announcement ≡ broadcast config (bytes payload) records out
  AnswersOver (step.Broadcast payload) records (answer.Receive receipt) = ⊥
  AnswersOver (step.Receive sender seq signers payload) records (answer.Broadcast announcement) = ⊥
  AnswersOver (step.Receive sender seq signers payload) records (answer.Receive receipt) =
      receipt_of receipt ≡ (receive config (step_bundle config sender seq signers payload) records out and_then λ result. done (reported result))

  -- the node's records afterwards, and the outgoing bytes
  abbrev pub records_over : Step → List ℕ → List ℕ
  records_over (step.Broadcast payload) records = broadcast_records config (bytes payload) records out
  records_over (step.Receive sender seq signers payload) records = receive_records config (step_bundle config sender seq signers payload) records out

  abbrev pub out_over : Step → List ℕ → List ℕ
  out_over (step.Broadcast payload) records = broadcast_out config (bytes payload) records out
  out_over (step.Receive sender seq signers payload) records = receive_out config (step_bundle config sender seq signers payload) records out

-- and over those of the program
module _ (config : Config) where
  -- what the call answers at the node, with its count
  unfoldable pub answer_of : Step → List ℕ → Outcome (protocol.Answer × ℕ)
  answer_of (step.Broadcast payload) records =
      broadcast config (bytes payload) records blank_out and_then λ seq. done (announced, announcement_count (Ok seq))
  answer_of (step.Receive sender seq signers payload) records =
      receive config (step_bundle config sender seq signers payload) records blank_out and_then λ result. done (reported result)

  abbrev pub Answers : Step → List ℕ → Answer → Type 0
  Answers = AnswersOver config blank_out

  -- the node's records afterwards
  unfoldable pub records_by : Step → List ℕ → List ℕ
  records_by made records = records_over config blank_out made records

-- the answer and count that a program's answer stands for, or the number of the refusal
abbrev pub answered : Answer → Outcome (protocol.Answer × ℕ)
answered (answer.Broadcast announcement) = announcement_of announcement and_then λ seq. done (announced, announcement_count (Ok seq))
answered (answer.Receive receipt) = receipt_of receipt

-- ---- what is printed

abbrev pub act_of : Step → List ℕ
act_of (step.Broadcast payload) = ascii " A "
act_of (step.Receive sender seq signers payload) = ascii " B "

abbrev pub act_by : Answer → List ℕ
act_by (answer.Broadcast announcement) = ascii " A "
act_by (answer.Receive receipt) = ascii " B "

abbrev pub answer_word : protocol.Answer → List ℕ
answer_word announced = ascii "announced"
answer_word kept = ascii "kept"
answer_word signed = ascii "signed"
answer_word delivered = ascii "delivered"
answer_word noted = ascii "noted"

-- R16.2: the word of the answer, 0 and the count; or `refused`, the number of the reason and 0
abbrev pub answer_text : Outcome (protocol.Answer × ℕ) → List ℕ
answer_text (refused number) = ascii "refused " ++ (decimal number ++ ascii " 0\n")
answer_text (done reply) = answer_word reply.0 ++ (ascii " 0 " ++ (decimal reply.1 ++ ascii "\n"))

-- R16.2: the line of a step that is read: its ordinal, its act, its node and its answer
unfoldable pub step_text : ℕ → ℕ → List ℕ → Outcome (protocol.Answer × ℕ) → List ℕ
step_text ordinal node act reply = decimal ordinal ++ (act ++ (decimal node ++ (ascii " " ++ answer_text reply)))

-- R16.3: the line of a row that is not read
unfoldable pub unread_text : ℕ → List ℕ
unread_text ordinal = decimal ordinal ++ ascii " - - unread 0 0\n"

-- A row is printed over a buffer from index `at` on if the buffer has so many bytes there, room for any row, and else not at all, even if this one fits.
abbrev pub row_space : ℕ
row_space = 80

unfoldable pub roomy : ℕ → List ℕ → Bool
roomy at out = leb (at + row_space) (length out)

unfoldable pub printed_over : ℕ → List ℕ → List ℕ → List ℕ
printed_over at row out = cond (roomy at out) (written at row out) out

unfoldable pub printed_end : ℕ → List ℕ → List ℕ → ℕ
printed_end at row out = cond (roomy at out) (at + length row) at
