-- What the functions inside this crate promise each other. A reader may pass it over: no public contract cites it.
-- Assumes nothing.
use Rattle.std.specs.Prelude.{◌≡◌, Option, None, Some, List, ℕ, ◌+◌, ◌<◌, length, take, get_or}
use Rattle.text.specs.Text.{line_feed, written}
use Rattle.lines.specs.declared.Next.{Next}
use Rattle.lines.specs.declared.Run.{Run}
use Rattle.lines.specs.Bytes.{progress, after_bytes, bytes_text, through}

-- an index at which a line feed stands, or none
abbrev pub FeedAt : (end : Option ℕ) (chunk : List ℕ) → Type 0
FeedAt None chunk = Unit {0}
FeedAt (Some i) chunk = (i < length chunk) × (get_or chunk i 0 ≡ line_feed)

-- The first line of a piece was used, with its line feed, or all there is of it: what is known then, and what was printed.
abbrev pub UsesLine : (run : Run) (line records chunk : List ℕ) (at : ℕ) (out : List ℕ) (next : Run) (after left : List ℕ) (used len : ℕ) (over : List ℕ) → Type 0
UsesLine run line records chunk at out next after left used len over =
    (used ≡ through chunk)
    × ((progress next after left ≡ after_bytes (progress run line records) (take (through chunk) chunk))
    × ((len ≡ at + length (bytes_text (progress run line records) (take (through chunk) chunk)))
    × (over ≡ written at (bytes_text (progress run line records) (take (through chunk) chunk)) out)))

-- The first line was played where it stands, and that is all that is done for it, whatever the buffer for a line has. Or nothing was done.
abbrev pub InPlace : (run : Run) (chunk records : List ℕ) (at : ℕ) (out : List ℕ) (next : Option Next) (left over : List ℕ) → Type 0
InPlace run chunk records at out None left over = (left ≡ records) × (over ≡ out)
InPlace run chunk records at out (Some next) left over =
    (line : List ℕ) → UsesLine run line records chunk at out next.run line left next.used next.len over
