-- The last rows: how long each is at most, how long all of them together, and how they are written one after the other.
-- Assumes nothing.
use mathlib.Core.Path.{◌≡◌, sym, ap, ◌∙◌}
use mathlib.Core.Bool.{Bool, cond, true, false}
use mathlib.Core.List.{List, [], ◌++◌}
use Prim.Native.Nat.{ℕ, zero, suc, ◌+◌, ◌*◌, ◌≤◌, ◌<◌}
use native.Mathlib.Nat.{add-zero}
use native.Mathlib.Omega.{arith}
use native.Mathlib.Numerals.{add-one}
use lib.Dec.{eqb}
use lib.ListN.{length, length-append}
use borrow.Author.Tests.{ne_eqb, le-leb}
use Rattle.config.specs.declared.Config.{Config}
use Rattle.config.specs.Config.{slots}
use Rattle.text.specs.Text.{ascii, decimal, written}
use Rattle.text.proofs.DecimalDigits.{decimal-short}
use Rattle.text.proofs.WriteLaws.{written-empty, written_then, length-written}
use Rattle.summary.specs.DisplayNorm.{percent}
use Rattle.summary.specs.Summary.{rising, slot_text, sender_text, slots_text, summary_text, slot_space, summary_space, summary_fits, summary_over, summary_end}

-- ---- one row

-- the row of a slot that some node has delivered
unfoldable pub slot_row : ℕ → ℕ → ℕ → ℕ → List ℕ
slot_row sender seq delivered percent =
    decimal sender
    ++ (ascii " " ++ (decimal seq ++ (ascii " " ++ (decimal delivered ++ (ascii " " ++ (decimal percent ++ ascii "\n"))))))

-- four numbers of at most twenty digits, and a byte after each
pub row-length : (sender seq delivered percent : ℕ) → length (slot_row sender seq delivered percent) ≤ slot_space
unfolding slot_row ascii
row-length sender seq delivered percent =
    simp length-append (omega (arith, decimal-short sender, decimal-short seq, decimal-short delivered, decimal-short percent))

-- a slot that some node has delivered has its row, and another has none
pub slot_row_lem : (n sender seq delivered : ℕ) → (delivered ≡ 0 → ⊥) → slot_text n sender seq delivered ≡ slot_row sender seq delivered (percent n delivered)
unfolding slot_text slot_row
slot_row_lem n sender seq delivered some = rw (ne_eqb delivered 0 some)

pub slot-length : (n sender seq delivered : ℕ) → length (slot_text n sender seq delivered) ≤ slot_space
unfolding slot_text slot_row
slot-length n sender seq delivered = go (eqb delivered 0)
  where
    go : (b : Bool) → length (cond b [] (slot_row sender seq delivered (percent n delivered))) ≤ slot_space
    go true = omega arith
    go false = row-length sender seq delivered (percent n delivered)

-- ---- rows one after the other

-- each text of at most k bytes
rising-length : (f : ℕ → List ℕ) (k : ℕ) → ((i : ℕ) → length (f i) ≤ k) → (n : ℕ) → length (rising f n) ≤ k * n
unfolding rising
rising-length f k short zero = omega arith
rising-length f k short (suc n) = simp length-append (omega (arith, short n, rising-length f k short n))

-- the rows of a sender, and those of all
abbrev pub sender_rows : Config → (ℕ → ℕ → ℕ) → ℕ → ℕ → List ℕ
sender_rows config counts sender seq = slot_text config.n sender seq (counts sender seq)

pub row-short : (config : Config) (counts : ℕ → ℕ → ℕ) (sender seq : ℕ) → length (sender_rows config counts sender seq) ≤ slot_space
row-short config counts sender seq = slot-length config.n sender seq (counts sender seq)

pub sender-length : (config : Config) (counts : ℕ → ℕ → ℕ) (sender : ℕ) → length (sender_text config counts sender) ≤ slot_space * slots
unfolding sender_text
sender-length config counts sender = rising-length (sender_rows config counts sender) slot_space (row-short config counts sender) slots

pub slots_length : (config : Config) (counts : ℕ → ℕ → ℕ) → length (slots_text config counts) ≤ slot_space * slots * config.n
unfolding slots_text
slots_length config counts = rising-length (sender_text config counts) (slot_space * slots) (sender-length config counts) config.n

-- with the names line above them
pub summary-length : (config : Config) (counts : ℕ → ℕ → ℕ) → config.n < 256 → length (summary_text config counts) ≤ summary_space
unfolding summary_text ascii
summary-length config counts few = simp length-append (omega (arith, slots_length config counts))

-- ---- as they are written

-- the first n texts are written, and end there
pub record Risen (f : ℕ → List ℕ) (at : ℕ) (before : List ℕ) (n end : ℕ) (out : List ℕ) : Type 0 where
  pub ends : end ≡ at + length (rising f n)
  pub is : out ≡ written at (rising f n) before

-- none,
pub risen-none : (f : ℕ → List ℕ) (at : ℕ) (out : List ℕ) → Risen f at out 0 at out
unfolding rising
risen-none f at out = record { ends = sym (add-zero at); is = sym (written-empty at out) }

-- which keeps the buffer's length,
pub risen-long : {f : ℕ → List ℕ} {at n end : ℕ} {before out : List ℕ} → Risen f at before n end out → length out ≡ length before
risen-long r = ap length r.is ∙ length-written _ _ _

-- and one more, for which there is room
module _ (f : ℕ → List ℕ) (k : ℕ) (short : (i : ℕ) → length (f i) ≤ k) {at n end : ℕ} {before out : List ℕ} (room : at + k * (n + 1) ≤ length before)
    (r : Risen f at before n end out) where
  pub risen-room : end + k ≤ length out
  risen-room = omega (arith, r.ends, risen-long r, rising-length f k short n)

  pub risen-more : {next : ℕ} {after : List ℕ} → next ≡ end + length (f n) → after ≡ written end (f n) out → Risen f at before (n + 1) next after
  unfolding rising
  risen-more e o =
      let far = rising-length f k short (suc n) in
      record {
        ends = rw (add-one n) (e ∙ simp length-append (omega (arith, r.ends)));
        is = rw (add-one n) (o ∙ rw (r.ends, r.is) (written_then at (rising f n) (f n) before (omega arith)));
      }

-- until all are there
pub risen-all : {f : ℕ → List ℕ} {at n end : ℕ} {before out : List ℕ} (m : ℕ) → n ≡ m → Risen f at before n end out
    → (end ≡ at + length (rising f m)) × (out ≡ written at (rising f m) before)
risen-all m e r = (rw e at r.ends, rw e at r.is)

-- and are printed where there is room for any
pub summary-fits : (at : ℕ) (text out : List ℕ) → at + summary_space ≤ length out
    → (summary_end at text out ≡ at + length text) × (summary_over at text out ≡ written at text out)
unfolding summary_end summary_over summary_fits
summary-fits at text out room = let some = le-leb (at + summary_space) (length out) room in (rw some, rw some)
