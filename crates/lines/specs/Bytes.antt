-- An input byte by byte, as it comes in pieces (R15.11): what is known after so much of it, what is printed for each line as it ends, and what is kept of it.
-- Assumes nothing.
use Rattle.std.specs.Prelude.{◌≡◌, cond, List, [], ◌∷◌, ◌++◌, ℕ, suc, min, ◌-◌, ◌≤◌, eqb, length, take, replicate}
use Rattle.text.specs.Text.{before, line_feed}
use Rattle.step.specs.Step.{roomy}
use Rattle.stages.specs.declared.State.{State}
use Rattle.stages.specs.Stages.{line_space, after_line, line_records, line_text}
use Rattle.lines.specs.declared.Run.{Run}

-- ---- what is known after some of the input

pub record Progress : Type 0 where
  -- what the lines left that have ended
  pub state : State
  -- what has come of the next one, up to one byte more than a row may have
  pub line : List ℕ
  pub records : List ℕ

module _ (p : Progress) where
  -- the line ends: what is known then, and what is printed for it
  unfoldable pub after_line_end : Progress
  after_line_end = record { state = after_line p.state p.line; line = []; records = line_records p.state p.line p.records }

  unfoldable pub line_end_text : List ℕ
  line_end_text = line_text p.state p.line p.records

  -- one byte more of the line
  unfoldable pub with_byte : (byte : ℕ) → Progress
  with_byte byte = record { state = p.state; line = take line_space (p.line ++ (byte ∷ [])); records = p.records }

  -- any byte
  unfoldable pub after_byte : (byte : ℕ) → Progress
  after_byte byte = cond (eqb byte line_feed) after_line_end (with_byte byte)

  unfoldable pub byte_text : (byte : ℕ) → List ℕ
  byte_text byte = cond (eqb byte line_feed) line_end_text []

-- ---- a piece of the input

unfoldable pub after_bytes : (p : Progress) (bytes : List ℕ) → Progress
after_bytes p [] = p
after_bytes p (b ∷ bs) = after_bytes (after_byte p b) bs

unfoldable pub bytes_text : (p : Progress) (bytes : List ℕ) → List ℕ
bytes_text p [] = []
bytes_text p (b ∷ bs) = byte_text p b ++ bytes_text (after_byte p b) bs

-- R15.11: a piece after a piece is the two together, so that it does not matter how the input is cut.
abbrev pub Pieces : Type 0
Pieces =
    (p : Progress) (first second : List ℕ)
    → (after_bytes p (first ++ second) ≡ after_bytes (after_bytes p first) second)
    × (bytes_text p (first ++ second) ≡ bytes_text p first ++ bytes_text (after_bytes p first) second)

-- ---- as the program has it: its struct, and the buffer in which a line is held

-- no more bytes are held than there is room for
unfoldable pub held_bytes : (run : Run) → ℕ
held_bytes run = min run.held line_space

unfoldable pub progress : (run : Run) (line records : List ℕ) → Progress
progress run line records = record { state = run.state; line = take (held_bytes run) line; records = records }

-- What is kept of it from one piece to the next: the line from the buffer's start on, with zeros behind it, and how many bytes it has.
module _ (p : Progress) where
  unfoldable pub kept_run : Run
  kept_run = record { state = p.state; held = length p.line }

  unfoldable pub kept_line : List ℕ
  kept_line = p.line ++ replicate (line_space - length p.line) 0

-- It stands for what is known, as long as the line has room in the buffer: whoever goes on from it has lost nothing.
abbrev pub KeptStands : Type 0
KeptStands = (p : Progress) → length p.line ≤ line_space → progress (kept_run p) (kept_line p) p.records ≡ p

-- R15.11: and no bytes make the line longer than that.
abbrev pub LineHasRoom : Type 0
LineHasRoom = (p : Progress) (bytes : List ℕ) → length p.line ≤ line_space → length (after_bytes p bytes).line ≤ line_space

-- ---- a line at a time

-- the first line with its line feed, or all there is of it
unfoldable pub through : (chunk : List ℕ) → ℕ
through chunk = min (suc (before line_feed chunk)) (length chunk)

-- so many bytes `next_line` uses: none where it finds fewer than `row_space` bytes to print to
unfoldable pub used_bytes : (at : ℕ) (chunk out : List ℕ) → ℕ
used_bytes at chunk out = cond (roomy at out) (through chunk) 0
