-- The seven lines of the first run, by one test computed over the list: the answer that a contract leaves has the line's row, and an answer that the contract
-- allows is that one.
-- Assumes nothing.
use mathlib.Core.Path.{◌≡◌, refl, sym, ap, ◌∙◌}
use mathlib.Core.Bool.{Bool, true, false, false≢true}
use mathlib.Core.List.{List}
use Prim.Native.Nat.{ℕ}
use native.Mathlib.Decide.{ℕ_discrete}
use Rattle.octets.proofs.ComputedTests.{every, every-says}
use Rattle.refusal.specs.Outcome.{done, ◌and_then◌}
use Rattle.refusal.proofs.Unique.{by_number, reason_of, result_from}
use Rattle.calls.specs.Broadcast.{broadcast}
use Rattle.calls.specs.Receive.{receive, reported}
use Rattle.calls.proofs.Unique.{announcement, receipt, announcement-back, receipt-back}
use Rattle.record.proofs.Unique.{answer_from}
use Rattle.system.specs.Demand3.{config_at, buffer}
use Rattle.system.specs.Play.{play_config, play_system, play_payload, PlayStep, A, B, play_out, play_bundle, PlayRow, AnswerWord-discrete, PlayRow-discrete, announcement_row, receipt_row, play_steps, PlayLine, follow, play_lines, Shows, LinesHold}
use Rattle.system.proofs.Computing.{calls-compute}

-- a decision as a test
decided : {A : Type 0} → Dec A → Bool
decided (yes a) = true
decided (no n) = false

decided-says : {A : Type 0} (d : Dec A) → decided d ≡ true → A
unfolding decided
decided-says (yes a) e = a
decided-says (no n) e = absurd (false≢true e)

-- the row of the answer that the contract of a step's call leaves
answer-row : (node : ℕ) (step : PlayStep) (records : List ℕ) → PlayRow
answer-row u A records = announcement_row (announcement (broadcast (config_at play_system u) play_payload records play_out))
answer-row u (B signers) records =
    receipt_row (receipt (receive (config_at play_system u) (play_bundle signers) records play_out and_then λ result. done (reported result)))

-- every answer that the contract allows is that one
only-answer : (u : ℕ) (step : PlayStep) (records : List ℕ) (shown : PlayRow) → answer-row u step records ≡ shown → Shows u step records shown
unfolding answer-row
only-answer u A records shown e = λ a allowed. ap announcement_row (sym (announcement-back a) ∙ ap announcement allowed) ∙ e
only-answer u (B signers) records shown e = λ a allowed. ap receipt_row (sym (receipt-back a) ∙ ap receipt allowed) ∙ e

-- whether a line has the row of that answer
line_row : PlayLine → PlayRow
line_row l = answer-row l.node l.step (buffer play_system l.before l.node)

row-test : (l : PlayLine) → Dec (line_row l ≡ l.row)
row-test l = PlayRow-discrete AnswerWord-discrete ℕ_discrete (line_row l) l.row

all_hold : every (λ l. decided (row-test l)) play_lines ≡ true
unfolding decided row-test line_row answer-row result_from answer_from reason_of by_number ℕ_discrete play_config play_system play_payload play_bundle play_steps follow play_lines calls-compute
all_hold = refl

pub lines-hold : LinesHold
unfolding line_row
lines-hold l m =
    only-answer l.node l.step (buffer play_system l.before l.node) l.row
    (decided-says (row-test l) (every-says (λ l. decided (row-test l)) m all_hold))
