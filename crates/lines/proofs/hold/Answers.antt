-- `hold` meets its contract: what has room is copied behind the bytes that are held. Assumes nothing.
use mathlib.Core.Path.{◌≡◌, sym, ap, ◌∙◌}
use mathlib.Core.List.{List, ◌++◌}
use Prim.Native.Nat.{ℕ, ◌+◌, ◌≤◌, min}
use native.Mathlib.Omega.{arith}
use lib.ListN.{length, take}
use lib.Seq.{length-take-le, take-append-add, take-append_seam}
use Rattle.std.proofs.lemmas.List.{take_min}
use Rattle.stages.specs.Stages.{line_space}
use Rattle.lines.proofs.FirstLine.{held-few}
use Rattle.lines.proofs.hold.Goals as goal
use Rattle.lines.proofs.hold.Goals.{After-held_bytes-held}

few : (c : After-held_bytes-held) → c.held_bytes-held.result ≤ line_space
few c = omega (arith, c.held_bytes-held.ensures, held-few c.args.run)

-- bytes that take the room behind others, or all of them if they have room
copied : (front bytes rest : List ℕ) (held more room : ℕ) → length front ≡ held → held + room ≡ line_space → more ≡ min (length bytes) room
    → take (held + more) (front ++ (take more bytes ++ rest)) ≡ take line_space (front ++ bytes)
copied front bytes rest held more room h full is =
    let much : length (take more bytes) ≡ more = length-take-le more bytes (omega arith) in
    let part : take more (take more bytes ++ rest) ≡ take more bytes = rw much at (take-append_seam (take more bytes) rest) in
    let fewer : more ≡ min room (length bytes) = omega arith in
    let all : take more bytes ≡ take room bytes = ap (λ (k : ℕ). take k bytes) fewer ∙ take_min room bytes in
    let end : line_space ≡ length front + room = omega arith in
    ap (λ (k : ℕ). take (k + more) (front ++ (take more bytes ++ rest))) (sym h)
    ∙ take-append-add front (take more bytes ++ rest) more
    ∙ ap (λ (xs : List ℕ). front ++ xs) (part ∙ all)
    ∙ sym (ap (λ (k : ℕ). take k (front ++ bytes)) end ∙ take-append-add front bytes room)

pub overflow_sub-room : goal.overflow_sub-room
overflow_sub-room c = few (goal.at.overflow_sub-room c).After-held_bytes-held

pub slice_bounds-copy_from_slice-end : goal.slice_bounds-copy_from_slice-end
slice_bounds-copy_from_slice-end c = omega (arith, c.min-more.ensures, few (goal.at.slice_bounds-copy_from_slice-end c).After-held_bytes-held)

pub returns : goal.returns
returns c =
    let held = few (goal.at.returns c).After-held_bytes-held in
    record {
      upper_bound = omega (arith, c.min-more.ensures, held);
      line_after = rw (c.copy_from_slice.ensures.after, ← c.held_bytes-held.ensures) (copied _ _ _ _ _ _ (length-take-le _ _ (omega (arith, held))) (omega (arith, held)) c.min-more.ensures);
    }
