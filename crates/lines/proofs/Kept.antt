-- What is kept of the input from one piece to the next stands for what is known of it: the claims of specs/Bytes.antt on `kept_run` and `kept_line`. And
-- what the program has of a line, any count and any buffer, comes to it once the buffer is cleared behind the line.
-- Assumes nothing.
use mathlib.Core.Path.{◌≡◌, refl, ap}
use mathlib.Core.Bool.{Bool, true, false, cond}
use mathlib.Core.List.{List, [], ◌∷◌, ◌++◌}
use Prim.Native.Nat.{ℕ, ◌-◌, ◌≤◌}
use native.Mathlib.Nat.{min-eq_left}
use native.Mathlib.Omega.{arith}
use lib.Dec.{eqb, lit≤}
use lib.ListN.{length, take, replicate, length-take}
use lib.Seq.{length-take-le, take-append_seam}
use Rattle.text.specs.Text.{line_feed}
use Rattle.stages.specs.Stages.{line_space}
use Rattle.lines.specs.declared.Run.{Run}
use Rattle.lines.specs.Bytes.{Progress, after_line_end, with_byte, after_byte, after_bytes, held_bytes, progress, kept_run, kept_line, KeptStands, LineHasRoom}
use Rattle.lines.proofs.Pieces.{with_line}
use Rattle.lines.proofs.FirstLine.{held-few}

-- what is kept stands for what is known
pub kept-stands : KeptStands
unfolding progress held_bytes kept_run kept_line
kept-stands p few = rw (min-eq_left few) (ap (with_line p.state p.records) (take-append_seam p.line _))

-- ---- a line has room in its buffer

-- after any byte,
byte-has-room : (p : Progress) (b : ℕ) → length (after_byte p b).line ≤ line_space
unfolding after_byte after_line_end with_byte
byte-has-room p b = go (eqb b line_feed)
  where
    go : (t : Bool) → length (cond t (after_line_end p) (with_byte p b)).line ≤ line_space
    go true = lit≤ tt
    go false = omega (arith, length-take line_space (p.line ++ (b ∷ [])))

-- after any bytes,
pub line-has-room : LineHasRoom
unfolding after_bytes
line-has-room p [] few = few
line-has-room p (b ∷ bs) few = line-has-room (after_byte p b) bs (byte-has-room p b)

-- ---- as the program has it

module _ (run : Run) (buffer records : List ℕ) where
  -- whatever the program goes on from,
  progress-has-room : length (progress run buffer records).line ≤ line_space
  unfolding progress
  progress-has-room = omega (arith, length-take (held_bytes run) buffer, held-few run)

  -- what is kept after any bytes stands for what is known then
  module _ (bytes : List ℕ) where
    abbrev after : Progress
    after = after_bytes (progress run buffer records) bytes

    pub kept-after : progress (kept_run after) (kept_line after) after.records ≡ after
    kept-after = kept-stands after (line-has-room (progress run buffer records) bytes progress-has-room)

  -- And what the program has, a count of the held bytes and a buffer cleared behind them, is what is kept.
  module _ (size : length buffer ≡ line_space) where
    held-length : length (take (held_bytes run) buffer) ≡ held_bytes run
    held-length = length-take-le (held_bytes run) buffer (omega (arith, held-few run))

    pub cleared-is-kept : (held : ℕ) → held ≡ held_bytes run → (p : Progress) → progress run buffer records ≡ p
        → (record { state = run.state; held = held } ≡ kept_run p)
        × ((take held buffer ++ replicate (length buffer - held) 0 ≡ kept_line p)
        × (records ≡ p.records))
    unfolding progress kept_run kept_line
    cleared-is-kept held count p known = rw (← known, held-length, count, size) (refl, (refl, refl))
