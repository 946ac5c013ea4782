-- The last rows of a run, R16.4 of docs/RULES.md: for each slot that some node has delivered how many nodes did, and how many percent that is.
-- Assumes nothing.
use Rattle.std.specs.Prelude.{Bool, true, false, cond, List, [], ◌++◌, ℕ, zero, suc, ◌+◌, ◌*◌, leb, eqb, length}
use Rattle.signers.specs.Sets.{count}
use Rattle.refusal.specs.Outcome.{after}
use Rattle.config.specs.declared.Config.{Config}
use Rattle.config.specs.Config.{slots, with_own, slot_of_day}
use Rattle.calls.specs.Showing.{delivered}
use Rattle.text.specs.Text.{ascii, decimal, written}
use Rattle.nodes.specs.Nodes.{played_nodes, records_at}
use Rattle.summary.specs.DisplayNorm.{percent}

-- R16.1: the names line above the rows
abbrev pub slot_names : List ℕ
slot_names = ascii "sender number units percent\n"

-- f 0, f 1 and on, up to f (n - 1)
unfoldable pub rising : (f : ℕ → List ℕ) (n : ℕ) → List ℕ
rising f zero = []
rising f (suc n) = rising f n ++ f n

-- R16.4: the row of a slot that some node has delivered, and none for any other slot
unfoldable pub slot_text : (n sender seq delivered : ℕ) → List ℕ
slot_text n sender seq delivered =
    cond (eqb delivered 0) []
    (decimal sender
    ++ (ascii " "
    ++ (decimal seq ++ (ascii " " ++ (decimal delivered ++ (ascii " " ++ (decimal (percent n delivered) ++ ascii "\n")))))))

module _ (config : Config) where
  -- the rows of a sender by seq, and those of all senders, where `counts` says how many nodes have delivered a slot
  unfoldable pub sender_text : (counts : (sender seq : ℕ) → ℕ) (sender : ℕ) → List ℕ
  sender_text counts sender = rising (λ seq. slot_text config.n sender seq (counts sender seq)) slots

  unfoldable pub slots_text : (counts : (sender seq : ℕ) → ℕ) → List ℕ
  slots_text counts = rising (sender_text counts) config.n

  -- R16.1: with the names line, which is there without rows too
  unfoldable pub summary_text : (counts : (sender seq : ℕ) → ℕ) → List ℕ
  summary_text counts = slot_names ++ slots_text counts

  -- how many nodes show a payload in the slot, by the records of all nodes in one buffer
  unfoldable pub shown_count : (records : List ℕ) (sender seq : ℕ) → ℕ
  shown_count records sender seq =
      count (λ node. after (delivered (with_own config node) (slot_of_day config sender seq) (records_at config node records)) (λ place. true) false) (played_nodes config)

-- ---- over a buffer

-- room for any row: four numbers of at most twenty digits, with a byte after each
abbrev pub slot_space : ℕ
slot_space = 84

-- room for the names line, of 28 bytes, and for the rows of as many senders as a byte can count
abbrev pub summary_space : ℕ
summary_space = 28 + slot_space * slots * 256

-- The text is printed over a buffer from index `at` on if the buffer has so many bytes there, and else not at all, even if this text fits.
unfoldable pub summary_fits : (at : ℕ) (out : List ℕ) → Bool
summary_fits at out = leb (at + summary_space) (length out)

unfoldable pub summary_over : (at : ℕ) (text out : List ℕ) → List ℕ
summary_over at text out = cond (summary_fits at out) (written at text out) out

unfoldable pub summary_end : (at : ℕ) (text out : List ℕ) → ℕ
summary_end at text out = cond (summary_fits at out) (at + length text) at
