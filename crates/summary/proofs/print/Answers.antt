-- `print` meets its contract: with room for any rows, the names line and the rows are written one after the other. Assumes nothing.
use mathlib.Core.Path.{◌≡◌, refl, sym, ap, ◌∙◌}
use mathlib.Core.List.{List, ◌++◌}
use Prim.Native.Nat.{ℕ, ◌+◌, ◌≤◌}
use native.Mathlib.Omega.{arith}
use lib.Dec.{leb}
use mathlib.Core.Bool.{false}
use lib.ListN.{length, length-append}
use borrow.Author.Rules.{rules}
use borrow.Author.Tests.{leb-true}
use Rattle.text.specs.Text.{ascii}
use Rattle.text.proofs.WriteLaws.{length-written, end-with-room}
use Rattle.text.proofs.WrittenTexts.{puts, puts-all, ◌then◌}
use Rattle.summary.specs.Summary.{slot_names, slots_text, summary_text, shown_count, summary_space, summary_fits, summary_over, summary_end}
use Rattle.summary.proofs.LastRows.{slots_length, summary-fits}
use Rattle.summary.proofs.print.Goals as goal
use Rattle.summary.proofs.print.Goals.{After-put-start}

-- without room nothing is printed
no_room : (at : ℕ) (text out : List ℕ) → leb (at + summary_space) (length out) ≡ false → (at ≡ summary_end at text out) × (out ≡ summary_over at text out)
unfolding summary_end summary_over summary_fits
no_room at text out h = rw h (refl, refl)

room : (c : After-put-start) → c.args.at + summary_space ≤ length c.args.out.now
room c = leb-true _ _ (sym c.has_room.ensures ∙ c.if-not-has_room.false)

-- what the names line leaves: where it ends, and the buffer's length
named : (c : After-put-start) → (c.put-start.result ≡ c.args.at + 28) × (length c.put-start.new.out ≡ length c.args.out.now)
unfolding ascii
named c =
    let a = c.args in
    let fits : a.at + 28 ≤ length a.out.now = omega (arith, room c) in
    (c.put-start.ensures.value ∙ end-with-room _ _ _ fits, ap length c.put-start.ensures.out_after ∙ length-written _ _ _)

pub returns-then-not-has_room : goal.returns-then-not-has_room
returns-then-not-has_room c =
    let (l, o) = no_room _ _ _ (sym c.has_room.ensures ∙ c.if-not-has_room.true) in
    record { value = l; out_after = o }

pub rows-requires : goal.rows-requires
rows-requires c =
    let p = c in
    omega (arith, (named (goal.at.rows-requires c).After-put-start).0, (named (goal.at.rows-requires c).After-put-start).1, room (goal.at.rows-requires c).After-put-start)

pub returns : goal.returns
unfolding summary_text ascii
returns c =
    let p = c in
    let a = p.args in
    let rows : List ℕ = slots_text a.config (shown_count a.config a.records.now) in
    let fits : a.at + length (slot_names ++ rows) ≤ length a.out.now =
    simp length-append (omega (arith, room (goal.at.returns c).After-put-start, slots_length a.config (shown_count a.config a.records.now))) in
    let (l, o) = (puts (p.put-start.ensures.value, p.put-start.ensures.out_after) then puts-all (c.rows.ensures.value, c.rows.ensures.out_after)).wrote fits in
    let (end, over) = summary-fits a.at (slot_names ++ rows) a.out.now (room (goal.at.returns c).After-put-start) in
    record {
      value = l ∙ sym end;
      out_after = o ∙ sym over;
    }
