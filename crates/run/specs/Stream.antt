-- The end of the input, and the run program as it is given its input in pieces (R15.11). That pieces and end together print what specs/Run.antt says of the
-- whole input are the theorems `Streams` and `InPieces`, proved in proofs/Streams.antt. So a reader who believes specs/Run.antt need hold beside the rules no
-- more of what stands here than what `InPieces` is about: `printed_in_pieces` and `used_input`.
-- Assumes nothing.
use Rattle.std.specs.Prelude.{◌≡◌, cond, List, [], ◌∷◌, ◌++◌, ℕ, ◌*◌, ◌^◌, ◌<◌, min, length, take}
use Rattle.text.specs.Text.{empty}
use Rattle.step.specs.Step.{row_space}
use Rattle.nodes.specs.Nodes.{records_space}
use Rattle.summary.specs.Summary.{summary_text, shown_count}
use Rattle.stages.specs.declared.State.{State}
use Rattle.stages.specs.declared.Stage.{Stage}
use Rattle.stages.specs.declared.Stage.TheVariants.{TableNames, TableRow, StepNames, Steps, NoTable}
use Rattle.stages.specs.Stages.{start_state}
use Rattle.lines.specs.declared.Run.{Run}
use Rattle.lines.specs.Bytes.{Progress, after_line_end, line_end_text, after_bytes, bytes_text, progress, kept_run, kept_line}
use Rattle.run.specs.Run.{no_table, printed}

-- at the start, with a buffer of any content
unfoldable pub fresh : (records : List ℕ) → Progress
fresh records = record { state = start_state; line = []; records = records }

-- ---- the end of the input

-- the last rows, if there was a table, and else that there was none (R15.7)
abbrev pub closing_text_at : (state : State) (stage : Stage) (records : List ℕ) → List ℕ
closing_text_at state TableNames records = no_table
closing_text_at state TableRow records = no_table
closing_text_at state StepNames records = no_table
closing_text_at state Steps records = summary_text state.config (shown_count state.config records)
closing_text_at state NoTable records = no_table

unfoldable pub closing_text : (state : State) (records : List ℕ) → List ℕ
closing_text state records = closing_text_at state state.stage records

-- R15.3: at the end of the input the last line ends too, if there is something of it
unfoldable pub finished_text : (p : Progress) → List ℕ
finished_text p =
    cond (empty p.line) (closing_text p.state p.records) (line_end_text p ++ closing_text (after_line_end p).state (after_line_end p).records)

-- and the records that this leaves
unfoldable pub finished_records : (p : Progress) → List ℕ
finished_records p = cond (empty p.line) p.records (after_line_end p).records

-- ---- as the program has it

unfoldable pub start_run : Run
start_run = record { state = start_state; held = 0 }

-- so many bytes are used at a time, and there is room for a row for each
abbrev pub most_chunk : ℕ
most_chunk = 16384

abbrev pub out_space : ℕ
out_space = row_space * most_chunk

-- of a piece, whatever its length, so many bytes are used, from its start on
abbrev pub used_of_piece : (piece : List ℕ) → ℕ
used_of_piece piece = min (length piece) most_chunk

-- what is known after them, and what is printed for them
module _ (run : Run) (line records piece : List ℕ) where
  unfoldable pub after_piece : Progress
  after_piece = after_bytes (progress run line records) (take (used_of_piece piece) piece)

  unfoldable pub piece_text : List ℕ
  piece_text = bytes_text (progress run line records) (take (used_of_piece piece) piece)

-- ---- what is printed is what specs/Run.antt says

-- R15.11: what is printed for an input that comes byte by byte is what `printed` says of the whole of it. The ordinal of a row is counted in 64 bits.
abbrev pub Streams : Type 0
Streams =
    (records input : List ℕ) → length records ≡ records_space → length input < 2 ^ 64
    → bytes_text (fresh records) input ++ finished_text (after_bytes (fresh records) input) ≡ printed input

-- What a caller prints who gives `feed` pieces of any length, one after the other, each with the run, the line and the records that the call before left,
-- and then calls `finish` with them.
unfoldable pub printed_in_pieces : (run : Run) (line records : List ℕ) (pieces : List (List ℕ)) → List ℕ
printed_in_pieces run line records [] = finished_text (progress run line records)
printed_in_pieces run line records (piece ∷ others) =
    piece_text run line records piece
    ++ printed_in_pieces (kept_run (after_piece run line records piece)) (kept_line (after_piece run line records piece)) (after_piece run line records piece).records others

-- the bytes that were used of the pieces, one after the other: the input, if each piece goes on after the bytes that were used of the one before
unfoldable pub used_input : (pieces : List (List ℕ)) → List ℕ
used_input [] = []
used_input (piece ∷ others) = take (used_of_piece piece) piece ++ used_input others

-- R15.11: so what the program prints from `start` on, whatever pieces its input comes in, is what `printed` says of the whole of it.
abbrev pub InPieces : Type 0
InPieces =
    (line records : List ℕ) (pieces : List (List ℕ)) → length records ≡ records_space → length (used_input pieces) < 2 ^ 64
    → printed_in_pieces start_run line records pieces ≡ printed (used_input pieces)
