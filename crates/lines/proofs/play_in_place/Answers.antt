-- `play_in_place` meets its contract. Assumes nothing.
use mathlib.Core.Path.{◌∙◌}
use native.Mathlib.Omega.{arith}
use lib.ListN.{take}
use Rattle.stages.proofs.ReadRows.{not-in-place}
use Rattle.lines.proofs.FirstLine.{uses-usual}
use Rattle.lines.proofs.play_in_place.Goals as goal

pub returns-then-len-at : goal.returns-then-len-at
returns-then-len-at c =
    let a = c.args in
    let played = c.play_step_row-len.ensures in
    let (r, o) = not-in-place a.run.state (take c.in_ok-feed.feed a.chunk.now) a.records.now a.at a.out.now (played.value, played.out_after) c.requires c.if-len-at.true in
    (played.records_after ∙ r, o)

pub returns : goal.returns
returns c =
    let a = c.args in
    let played = c.play_step_row-len.ensures in
    let feed = c.in_ok-feed.ensures in
    λ line.
    uses-usual a.run line a.records.now a.chunk.now a.at a.out.now _ feed (omega arith) c.requires _ _ _ (played.value, played.out_after) played.records_after c.if-len-at.false _ c.after_step_row.ensures line
