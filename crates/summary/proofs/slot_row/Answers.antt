-- `slot_row` meets its contract: eight texts written one after the other are one. Assumes nothing.
use mathlib.Core.Path.{◌≡◌, sym, ap, ◌∙◌}
use mathlib.Core.List.{List}
use Prim.Native.Nat.{ℕ, ◌+◌}
use native.Mathlib.Nat.{add-zero}
use native.Mathlib.Omega.{arith}
use lib.ListN.{length}
use Rattle.text.specs.Text.{ascii, written}
use Rattle.text.proofs.WriteLaws.{written-empty}
use Rattle.text.proofs.WrittenTexts.{puts, ◌then◌}
use Rattle.summary.specs.Summary.{slot_text}
use Rattle.summary.proofs.LastRows.{slot_row, row-length, slot_row_lem}
use Rattle.summary.proofs.slot_row.Goals as goal
use Rattle.summary.proofs.slot_row.Goals.{After-put}

-- ---- what is written
abbrev at : After-put → ℕ
at c = c.args.at

abbrev out : After-put → List ℕ
out c = c.args.out.now

abbrev percent : After-put → ℕ
percent c = c.percent.result

abbrev row : After-put → List ℕ
row c = slot_row c.args.sender c.args.seq c.args.delivered (percent c)

-- the eight writes are one
row_written : (c : After-put) → (c.put.result ≡ at c + length (row c)) × (c.put.new.out ≡ written (at c) (row c) (out c))
unfolding slot_row ascii
row_written c =
    let d4 = c in
    let p3 = c in
    let d3 = c in
    let p2 = c in
    let d2 = c in
    let p1 = c in
    let s = c in
    (puts (p1.decimal-a.ensures.value, p1.decimal-a.ensures.out_after)
    then puts (p1.put-b.ensures.value, p1.put-b.ensures.out_after)
    then puts (d2.decimal-c.ensures.value, d2.decimal-c.ensures.out_after)
    then puts (p2.put-d.ensures.value, p2.put-d.ensures.out_after)
    then puts (d3.decimal-e.ensures.value, d3.decimal-e.ensures.out_after)
    then puts (p3.put-f.ensures.value, p3.put-f.ensures.out_after)
    then puts (d4.decimal-g.ensures.value, d4.decimal-g.ensures.out_after)
    then puts (c.put.ensures.value, c.put.ensures.out_after)).wrote (omega (arith, s.requires, row-length s.args.sender s.args.seq s.args.delivered (percent c)))

-- and the row is that of the slot
row_is : (c : After-put) → slot_text c.args.n c.args.sender c.args.seq c.args.delivered ≡ row c
row_is c =
    let a = c.args in
    slot_row_lem _ _ _ _ c.if-delivered-eq0.false ∙ ap (slot_row a.sender a.seq a.delivered) (sym c.percent.ensures)

pub returns-then-delivered-eq0 : goal.returns-then-delivered-eq0
unfolding slot_text
returns-then-delivered-eq0 c = record {
  value = rw c.if-delivered-eq0.true (sym (add-zero _));
  out_after = rw c.if-delivered-eq0.true (sym (written-empty _ _));
}

pub returns : goal.returns
returns c = record {
  value = rw (row_is (goal.at.returns c).After-put) ((row_written (goal.at.returns c).After-put).0);
  out_after = rw (row_is (goal.at.returns c).After-put) ((row_written (goal.at.returns c).After-put).1);
}
