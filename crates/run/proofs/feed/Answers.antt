-- `feed` meets its contract: the lines of the piece are played, and what is held of the next is counted and cleared behind. Assumes nothing.
use mathlib.Core.Path.{◌≡◌, refl, ◌∙◌}
use mathlib.Core.List.{List, [], ◌++◌, append-nil}
use Prim.Native.Nat.{ℕ, ◌-◌, ◌≤◌}
use native.Mathlib.Omega.{arith}
use lib.ListN.{length, take, drop, replicate, length-drop}
use lib.Seq.{length-take-le}
use Rattle.std.proofs.lemmas.List.{drop_all}
use Rattle.stages.specs.Stages.{line_space}
use Rattle.lines.proofs.FirstLine.{held-few}
use Rattle.lines.proofs.Kept.{cleared-is-kept}
use Rattle.run.specs.Stream.{after_piece, piece_text}
use Rattle.run.proofs.feed.Goals as goal

-- zeros from an index of the line's buffer on, and nothing behind them
cleared-behind : (held : ℕ) (buffer zeros rest : List ℕ) → length buffer ≡ line_space → held ≤ line_space
    → zeros ≡ replicate (length (take (line_space - held) (drop held buffer))) 0 → rest ≡ drop (line_space - held) (drop held buffer)
    → take held buffer ++ (zeros ++ rest) ≡ take held buffer ++ replicate (length buffer - held) 0
cleared-behind held buffer zeros rest size few z r =
    let long : length (drop held buffer) ≡ line_space - held = omega (arith, length-drop held buffer) in
    let count : length (take (line_space - held) (drop held buffer)) ≡ length buffer - held = omega (arith, length-take-le (line_space - held) (drop held buffer) (omega arith)) in
    let none : rest ≡ [] = r ∙ drop_all (line_space - held) (drop held buffer) (omega arith) in
    rw (z, count, none, append-nil)

pub slice_bounds-fill-count : goal.slice_bounds-fill-count
slice_bounds-fill-count c = omega (arith, c.held_bytes-held.ensures, held-few c.feed_lines-fed.result.run)

pub slice_bounds-fill-start : goal.slice_bounds-fill-start
slice_bounds-fill-start c = omega (arith, c.held_bytes-held.ensures, held-few c.feed_lines-fed.result.run)

pub returns : goal.returns
unfolding after_piece piece_text
returns c =
    let a = c.args in
    let fed = c.feed_lines-fed.ensures in
    let held : c.held_bytes-held.result ≤ line_space = omega (arith, c.held_bytes-held.ensures, held-few c.feed_lines-fed.result.run) in
    let buffer : List ℕ = c.feed_lines-fed.new.line in
    let size : length buffer ≡ line_space = omega arith in
    let (run, (line, records)) =
    cleared-is-kept c.feed_lines-fed.result.run buffer c.feed_lines-fed.new.records size c.held_bytes-held.result c.held_bytes-held.ensures
    (after_piece a.run a.line.now a.records.now a.chunk.now) (rw c.min-used.ensures at fed.records_after) in
    record {
      used_value = fed.used_value ∙ length-take-le _ _ (omega (arith, c.min-used.ensures)) ∙ c.min-used.ensures;
      run_value = run;
      line_after = cleared-behind _ buffer _ _ size held (c.fill.ensures.after (λ _ e. e)) refl ∙ line;
      records_after = records;
      len_value = rw c.min-used.ensures at fed.len_value;
      out_after = rw c.min-used.ensures at fed.out_after;
      len_in_bounds = fed.len_in_bounds;
    }
