-- `put_together` meets its contract. Assumes nothing.
use mathlib.Core.Path.{◌≡◌, sym, ◌∙◌}
use native.Mathlib.Omega.{arith}
use lib.ListN.{take}
use lib.Seq.{length-take-le}
use Rattle.text.specs.Text.{line_feed}
use Rattle.text.proofs.Fields.{before-le}
use Rattle.lines.proofs.FirstLine.{line_held, line-held, uses-part, uses-ended}
use Rattle.lines.proofs.put_together.Goals as goal
use Rattle.lines.proofs.put_together.Goals.{After-hold-held}

-- what is held then of the line
held-line : (c : After-hold-held) → take c.hold-held.result c.hold-held.new.line
    ≡ line_held c.args.run c.args.line.now c.args.records.now c.args.chunk.now
    c.args.at c.args.out.now
held-line c =
    let s = c.args in
    c.hold-held.ensures.line_after ∙ line-held s.run s.line.now s.records.now s.chunk.now s.at s.out.now _ c.find-end.ensures

pub slice_bounds-hold-end : goal.slice_bounds-hold-end
slice_bounds-hold-end c = sym (length-take-le _ _ (omega (arith, c.find-end.ensures, before-le line_feed c.args.chunk.now)))

pub returns-then-end-chunk : goal.returns-then-end-chunk
returns-then-end-chunk c =
    let h = c in
    let s = h.args in
    uses-part s.run s.line.now s.records.now s.chunk.now s.at s.out.now _ h.find-end.ensures _ c.if-end-chunk.true _ h.hold-held.ensures.upper_bound (held-line (goal.at.returns-then-end-chunk c).After-hold-held)

pub overflow_add-result : goal.overflow_add-result
overflow_add-result c = omega (arith, c.find-end.ensures, before-le line_feed c.args.chunk.now)

pub returns : goal.returns
returns c =
    let e = c in
    let h = c in
    let s = c in
    let a = s.args in
    uses-ended a.run a.line.now a.records.now a.chunk.now a.at a.out.now _ h.find-end.ensures _ e.if-end-chunk.false s.requires
    _ (held-line (goal.at.returns c).After-hold-held) _ _ _ _ (e.end_line-ended.ensures.state_value, (e.end_line-ended.ensures.records_after, (e.end_line-ended.ensures.len_value, e.end_line-ended.ensures.out_after)))
