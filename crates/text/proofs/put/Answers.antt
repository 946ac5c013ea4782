-- `put` meets its contract. Assumes nothing.
use mathlib.Core.Path.{refl, sym, ◌∙◌}
use Prim.Native.Nat.{◌+◌, ◌≤◌, ◌<◌}
use lib.ListN.{length}
use borrow.Author.Tests.{leb-false, leb-true}
use Rattle.text.proofs.WriteLaws.{written-not, end-not, written_over, end_of}
use Rattle.text.proofs.put.Goals as goal

pub returns-then-not-has_room : goal.returns-then-not-has_room
returns-then-not-has_room c =
    let no : length c.args.out.now < c.args.at + length c.args.text.now = leb-false _ _ (sym c.has_room.ensures ∙ c.if-not-has_room.true) in
    record { value = sym (end-not _ _ _ no); out_after = sym (written-not _ _ _ no) }

pub returns : goal.returns
returns c =
    let room : c.args.at + length c.args.text.now ≤ length c.args.out.now = leb-true _ _ (sym c.has_room.ensures ∙ c.if-not-has_room.false) in
    record { value = sym (end_of _ _ _ _ refl room); out_after = rw c.copy_from_slice.ensures.after (written_over _ _ _ _ refl room) }
