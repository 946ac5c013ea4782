-- A row that is read has at most 63 bytes and no line feed, and is at a node of the system.
-- Assumes nothing.
use mathlib.Core.Path.{◌≡◌, refl, sym, ap, ◌∙◌}
use mathlib.Core.Bool.{Bool, true, false, cond, and-eq-true_iff}
use mathlib.Core.List.{List}
use Prim.Native.Nat.{ℕ, ◌≤◌, ◌<◌}
use native.Mathlib.Omega.{arith}
use lib.ListN.{length}
use Rattle.std.specs.Prelude.{Option, Some, None}
use Rattle.std.proofs.lemmas.Option.{none-some, same_Some}
use Rattle.octets.specs.Octets.{same}
use Rattle.text.specs.Text.{ascii, line_feed, before}
use Rattle.row.specs.declared.Step.{Step}
use Rattle.row.specs.declared.StepRow.{StepRow}
use Rattle.row.specs.Row.{act, node, broadcast_fields, broadcast_row, receive_fields, receive_row, is_broadcast, is_receive, row_in}
use Rattle.row.proofs.LineLengths.{Line, broadcast-line, receive-line}
use Rattle.row.proofs.RowFields.{row_of, NodeField, node-field, broadcast-fields, receive-fields}
use Rattle.row.proofs.StepRows.{row-untested}

module _ (n : ℕ) (line : List ℕ) (row : StepRow) (e : row_in n line ≡ Some row) where
  row_read : Line 63 line × (NodeField n line × (node line ≡ row.node))
  unfolding is_broadcast is_receive broadcast_row receive_row
  row_read = go (is_broadcast n line) refl (is_receive n line) refl _ _ (sym (row-untested n line) ∙ e)
    where
      go : (a : Bool) → is_broadcast n line ≡ a → (b : Bool) → is_receive n line ≡ b → (s t : Step)
          → cond a (row_of (node line) s) (cond b (row_of (node line) t) None) ≡ Some row → Line 63 line × (NodeField n line × (node line ≡ row.node))
      go true p b q s t h =
          let fields = broadcast-fields n line ((and-eq-true_iff (same (act line) (ascii "A")) (broadcast_fields n line)).0 p).1 in
          (broadcast-line n line p, (node-field n line fields.at-node, ap (λ (r : StepRow). r.node) (same_Some _ _ h)))
      go false p true q s t h =
          let fields = receive-fields n line ((and-eq-true_iff (same (act line) (ascii "B")) (receive_fields n line)).0 q).1 in
          (receive-line n line q, (node-field n line fields.at-node, ap (λ (r : StepRow). r.node) (same_Some _ _ h)))
      go false p false q s t h = absurd (none-some row h)

  pub row-short : length line ≤ 63
  row-short = row_read.0.short

  pub row-no-feed : before line_feed line ≡ length line
  row-no-feed = row_read.0.feedless

  pub row-node : row.node < n
  row-node = omega (arith, row_read.1.0.below, row_read.1.1)

-- the same of any row
abbrev pub NodeBelow : (n : ℕ) (row : Option StepRow) → Type 0
NodeBelow n None = Unit
NodeBelow n (Some row) = row.node < n

pub row-node-below : (n : ℕ) (line : List ℕ) → NodeBelow n (row_in n line)
row-node-below n line = go (row_in n line) refl
  where
    go : (row : Option StepRow) → row_in n line ≡ row → NodeBelow n row
    go None e = tt
    go (Some row) e = row-node n line row e
