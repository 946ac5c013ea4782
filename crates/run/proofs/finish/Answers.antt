-- `finish` meets its contract. Assumes nothing.
use mathlib.Core.Path.{◌≡◌}
use Prim.Native.Nat.{ℕ, ◌<◌}
use native.Mathlib.Omega.{arith}
use mathlib.Core.List.{List}
use lib.ListN.{length, take}
use Rattle.stages.specs.Stages.{line_space, line_text}
use Rattle.stages.proofs.LineEnds.{line-length}
use Rattle.lines.proofs.FirstLine.{held-few, writes-printed}
use Rattle.run.specs.Stream.{out_space}
use Rattle.run.proofs.Finishing.{finishes-none, finishes-line}
use Rattle.run.proofs.finish.Goals as goal

pub returns-then-held-eq0 : goal.returns-then-held-eq0
returns-then-held-eq0 c =
    let a = c.args in
    let size : length a.out.now ≡ out_space = omega arith in
    let small : a.run.state.config.n < 256 = omega arith in
    let (v, (o, (r, bound))) = finishes-none a.run a.line.now a.records.now a.out.now size _ c.held_bytes-held.ensures c.if-held-eq0.true small _ _ c.close.ensures.value c.close.ensures.out_after in
    record { value = v; out_after = o; records_after = r; upper_bound = bound }

pub shared_ref_as_front-end_line : goal.shared_ref_as_front-end_line
shared_ref_as_front-end_line c = omega (arith, c.held_bytes-held.ensures, held-few c.args.run)

pub close-requires-2 : goal.close-requires-2
close-requires-2 c =
    let a = c.args in
    let ended = c.end_line-ended.ensures in
    let line : List ℕ = take c.held_bytes-held.result a.line.now in
    let (l, o) = writes-printed 0 a.out.now (omega arith) (line_text a.run.state line a.records.now) (ended.len_value, ended.out_after) in
    omega (arith, l, line-length a.run.state line a.records.now)

pub returns : goal.returns
returns c =
    let a = c.args in
    let size : length a.out.now ≡ out_space = omega arith in
    let long : length a.line.now ≡ line_space = omega arith in
    let small : c.end_line-ended.result.state.config.n < 256 = omega (arith, c.end_line-ended.type_inv) in
    let ended = c.end_line-ended.ensures in
    let (v, (o, (r, bound))) =
    finishes-line a.run a.line.now a.records.now a.out.now size _ c.held_bytes-held.ensures c.if-held-eq0.false long
    _ small _ _ _ (ended.state_value, (ended.records_after, (ended.len_value, ended.out_after))) _ _ c.close-2.ensures.value c.close-2.ensures.out_after in
    record { value = v; out_after = o; records_after = r; upper_bound = bound }
