-- The first run, R16.5, step by step, and what is claimed of each of its seven lines as a fact that ranges over them (R17.6). It is proved in proofs/Play.antt.
-- Assumes nothing.
use Rattle.std.specs.Prelude.{◌≡◌, false, ℕ, suc, replicate, Result, Ok, Err}
use mathlib.Core.List.{List, [], ◌∷◌, Memᴰ}
use Rattle.refusal.specs.declared.Refusal.{Refusal}
use Rattle.refusal.specs.Refusal.{number_of}
use Rattle.refusal.specs.Outcome.{done, ◌and_then◌}
use Rattle.config.specs.declared.Config.{Config}
use Rattle.config.specs.Config.{config_for, records_size}
use Rattle.bundle.specs.Bundle.{bundle_size, bundle_of, header_of_day}
use Rattle.protocol.specs.Trace.{Trace, start, ◌then◌calls◌}
use Rattle.record.specs.declared.Answer as Answer
use Rattle.calls.specs.declared.Receipt.{Receipt}
use Rattle.calls.specs.Broadcast.{broadcast, announcement_of, announcement_count}
use Rattle.calls.specs.Receive.{receive, reported, receipt_of, receipt_count}
use Rattle.system.specs.Demand3.{Call, Open, Broadcast, Receive, System, config_at, buffer}

-- the play's configuration and its system: nobody is faulty, and a buffer of records has no zero byte before the opening
unfoldable pub play_config : Config
play_config = config_for 4 1 0 7

unfoldable pub play_system : System
play_system = record {
  shared = play_config;
  faulty = λ node. false;
  buffers = λ node. replicate (records_size play_config) 255;
}

-- the payload of every step: 000102030405060708090a0b0c0d0e0f
unfoldable pub play_payload : List ℕ
play_payload = 0 ∷ 1 ∷ 2 ∷ 3 ∷ 4 ∷ 5 ∷ 6 ∷ 7 ∷ 8 ∷ 9 ∷ 10 ∷ 11 ∷ 12 ∷ 13 ∷ 14 ∷ 15 ∷ []

-- R15.8: act A broadcasts at a node, act B gives a node a bundle of the day, which in the play is always of node 0's first slot.
pub data PlayStep : Type 0 where
  A : PlayStep
  B : (signers : ℕ) → PlayStep

-- the outgoing bytes given with a step
abbrev pub play_out : List ℕ
play_out = replicate bundle_size 0

unfoldable pub play_bundle : (signers : ℕ) → List ℕ
play_bundle signers = bundle_of (header_of_day play_config 0 0 signers) play_payload

abbrev pub play_call : (step : PlayStep) → Call
play_call A = Broadcast play_payload play_out
play_call (B signers) = Receive (play_bundle signers) play_out

-- R16.2: what is printed of an answer is its word, the number of the refusal or 0, and the count.
pub data AnswerWord : Type 0 where
  Announced Kept Signed Delivered Noted Refused : AnswerWord
  deriving Discrete as AnswerWord-discrete

pub data PlayRow : Type 0 where
  play_row : (answer : AnswerWord) (reason count : ℕ) → PlayRow
  deriving Discrete as PlayRow-discrete

-- the row of each answer; its count is the one that goes with the answer
abbrev pub announcement_row : Result ℕ Refusal → PlayRow
announcement_row (Ok seq) = play_row Announced 0 (announcement_count (Ok seq))
announcement_row (Err reason) = play_row Refused (number_of reason) (announcement_count (Err reason))

-- the word of each answer of receiving
abbrev pub word_of : Answer.Answer → AnswerWord
word_of Answer.TheVariants.Kept = Kept
word_of Answer.TheVariants.Signed = Signed
word_of Answer.TheVariants.Delivered = Delivered
word_of Answer.TheVariants.Noted = Noted

abbrev pub receipt_row : Result Receipt Refusal → PlayRow
receipt_row (Ok receipt) = play_row (word_of receipt.answer) 0 (receipt_count (Ok receipt))
receipt_row (Err reason) = play_row Refused (number_of reason) (receipt_count (Err reason))

-- a step with its node and the row that is printed for it
abbrev pub step_at : (node : ℕ) (step : PlayStep) (answer : AnswerWord) (reason count : ℕ) → ℕ × PlayStep × PlayRow
step_at node step answer reason count = (node, step, play_row answer reason count)

-- the seven lines; the signers of line 6 lack the sender's bit
unfoldable pub play_steps : List (ℕ × PlayStep × PlayRow)
play_steps =
    step_at 0 A Announced 0 1
    ∷ step_at 1 (B 1) Signed 0 2
    ∷ step_at 1 (B 1) Kept 0 2
    ∷ step_at 2 (B 3) Delivered 0 3
    ∷ step_at 2 (B 7) Refused 22 0
    ∷ step_at 3 (B 2) Refused 8 0
    ∷ step_at 0 (B 7) Delivered 0 3
    ∷ []

-- a line: its ordinal, the calls before it, the node, the step there and the row
pub record PlayLine : Type 0 where
  pub ordinal : ℕ
  pub before : Trace Call
  pub node : ℕ
  pub step : PlayStep
  pub row : PlayRow

-- the steps as lines from an ordinal on, each with the calls before it
unfoldable pub follow : (ordinal : ℕ) (before : Trace Call) (steps : List (ℕ × PlayStep × PlayRow)) → List PlayLine
follow ordinal before [] = []
follow ordinal before (x ∷ rest) =
    record { ordinal = ordinal; before = before; node = x.0; step = x.1; row = x.2 } ∷ follow (suc ordinal) (before then x.0 calls play_call x.1) rest

-- the nodes open the day before the first step (R15.2), and the ordinal is counted from 1 (R16.2)
unfoldable pub play_lines : List PlayLine
play_lines = follow 1 (start then 0 calls Open then 1 calls Open then 2 calls Open then 3 calls Open) play_steps

-- a step at a node that finds the buffer `records`: every answer that the contract of its call allows has the row `shown`
abbrev pub Shows : (node : ℕ) (step : PlayStep) (records : List ℕ) (shown : PlayRow) → Type 0
Shows node A records shown =
    (a : Result ℕ Refusal) → announcement_of a ≡ broadcast (config_at play_system node) play_payload records play_out → announcement_row a ≡ shown
Shows node (B signers) records shown =
    (a : Result Receipt Refusal) → receipt_of a ≡ (receive (config_at play_system node) (play_bundle signers) records play_out and_then λ result. done (reported result))
    → receipt_row a ≡ shown

-- a line holds if its step, after the calls before it, shows the line's row
abbrev pub Prints : PlayLine → Type 0
Prints l = Shows l.node l.step (buffer play_system l.before l.node) l.row

-- Each of the seven lines holds. That there is an answer which the contract allows is part of the call's proof.
abbrev pub LinesHold : Type 0
LinesHold = (l : PlayLine) → Memᴰ l play_lines → Prints l
