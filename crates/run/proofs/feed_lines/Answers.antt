-- `feed_lines` meets its contract: each turn plays one line. Assumes nothing.
use mathlib.Core.Path.{refl}
use Prim.Native.Nat.{◌+◌, ◌*◌, ◌≤◌}
use native.Mathlib.Omega.{arith}
use lib.ListN.{length}
use Rattle.step.specs.Step.{row_space}
use Rattle.lines.specs.Bytes.{progress}
use Rattle.lines.proofs.Pieces.{bytes-length}
use Rattle.run.proofs.LineAfterLine.{SoFar, at-start, one_more, all-used, rest_part}
use Rattle.run.proofs.feed_lines.Goals as goal
use Rattle.run.proofs.feed_lines.Goals.{After-next_line-next}

-- after one line more
again : (c : After-next_line-next)
    → (1 ≤ c.next_line-next.result.used)
    × (c.loop-fed.fed.used + c.next_line-next.result.used ≤ length c.args.chunk.now)
    × SoFar (progress c.args.run c.args.line.now c.args.records.now) c.args.chunk.now c.args.out.now
    (c.loop-fed.fed.used + c.next_line-next.result.used)
    c.next_line-next.result.run c.next_line-next.new.line c.next_line-next.new.records c.next_line-next.result.len c.next_line-next.new.out
again c =
    let a = c.args in
    let line = c.next_line-next.ensures in
    let roomy : row_space * length a.chunk.now ≤ length a.out.now = omega (arith, c.requires.chunk_len_bound, c.requires.out_len) in
    one_more (progress a.run a.line.now a.records.now) a.chunk.now a.out.now roomy _ _ _ _ _ _ c.loop-fed.invariant.2 c.loop-fed-test.true _ _ _ _ _ _
    _ (rest_part c.loop-fed.fed.used a.chunk.now) line.used_value line.records_after line.len_value line.out_after

pub loop-fed-init : goal.loop-fed-init
loop-fed-init c = (omega arith, c.requires.out_len, at-start _ c.args.chunk.now c.args.out.now _ _ _ refl)

pub overflow_add-fed : goal.overflow_add-fed
overflow_add-fed c = omega (arith, (again (goal.at.overflow_add-fed c).After-next_line-next).1, c.requires.chunk_len_bound)

pub loop-fed-smaller : goal.loop-fed-smaller
loop-fed-smaller c = omega (arith, (again (goal.at.loop-fed-smaller c).After-next_line-next).0, (again (goal.at.loop-fed-smaller c).After-next_line-next).1)

pub loop-fed-preserved : goal.loop-fed-preserved
loop-fed-preserved c =
    let (some, more, known) = again (goal.at.loop-fed-preserved c).After-next_line-next in
    (more, omega arith, known)

pub returns : goal.returns
returns c =
    let (known, (printed, text)) = all-used _ c.args.chunk.now c.args.out.now _ _ _ _ _ _ c.loop-fed-test.false c.loop-fed.invariant.2 in
    record {
      records_after = known;
      used_value = omega (arith, c.loop-fed-test.false, c.loop-fed.invariant.0);
      len_value = printed;
      out_after = text;
      len_in_bounds = omega (arith, c.loop-fed.invariant.1, printed, bytes-length (progress c.args.run c.args.line.now c.args.records.now) c.args.chunk.now, c.requires.chunk_len_bound);
    }
