-- `close` meets its contract: by stage. Assumes nothing.
use mathlib.Core.Path.{◌≡◌, refl, ◌∙◌}
use mathlib.Core.List.{List}
use Prim.Native.Nat.{ℕ, ◌+◌, ◌≤◌}
use native.Mathlib.Omega.{arith}
use lib.ListN.{length}
use Rattle.text.specs.Text.{ascii, written}
use Rattle.text.proofs.WriteLaws.{end-with-room}
use Rattle.summary.specs.Summary.{summary_text, shown_count, summary_space, summary_over, summary_end}
use Rattle.summary.proofs.LastRows.{summary-fits}
use Rattle.stages.specs.declared.State.{State}
use Rattle.stages.specs.declared.Stage.{Stage}
use Rattle.stages.specs.declared.Stage.TheVariants.{TableNames, TableRow, StepNames, Steps, NoTable}
use Rattle.run.specs.Run.{no_table}
use Rattle.run.specs.Stream.{closing_text_at, closing_text}
use Rattle.run.proofs.close.Goals as goal
use Rattle.run.proofs.close.Goals.{After-put, In_default}

abbrev other : After-put → In_default
other c = (goal.at.After-put c).In_default

module _ (state : State) (records : List ℕ) where
  -- the last rows are printed at the end of the steps,
  closing-steps : state.stage ≡ Steps → closing_text state records ≡ summary_text state.config (shown_count state.config records)
  unfolding closing_text
  closing-steps e = rw e

  -- and "no table" at the end of anything else
  closing-other : (state.stage ≡ Steps → ⊥) → closing_text state records ≡ no_table
  unfolding closing_text
  closing-other other = go state.stage other
    where
      go : (stage : Stage) → (stage ≡ Steps → ⊥) → closing_text_at state stage records ≡ no_table
      go TableNames h = refl
      go TableRow h = refl
      go StepNames h = refl
      go Steps h = absurd (h refl)
      go NoTable h = refl

-- the last rows are written where there is room for any
rows_written : (at : ℕ) (text out : List ℕ) (len : ℕ) (over : List ℕ) → at + summary_space ≤ length out
    → (len ≡ summary_end at text out) × (over ≡ summary_over at text out) → (len ≡ at + length text) × (over ≡ written at text out)
rows_written at text out len over room (l, o) = let (end, all) = summary-fits at text out room in (l ∙ end, o ∙ all)

pub returns-in-Steps : goal.returns-in-Steps
returns-in-Steps c =
    let t = c in
    let s = c in
    let a = s.args in
    record {
      value = rw (closing-steps a.state a.records.now t.in-Steps.is) ((rows_written _ _ _ _ _ s.requires (c.print.ensures.value, c.print.ensures.out_after)).0);
      out_after = rw (closing-steps a.state a.records.now t.in-Steps.is) ((rows_written _ _ _ _ _ s.requires (c.print.ensures.value, c.print.ensures.out_after)).1);
    }

pub returns-in_default : goal.returns-in_default
unfolding no_table ascii
returns-in_default c =
    let k = c in
    let s = c in
    let room : s.args.at + 9 ≤ length s.args.out.now = omega (arith, s.requires) in
    record {
      value = rw (closing-other s.args.state s.args.records.now k.in_default.not-Steps) (c.put.ensures.value ∙ end-with-room _ _ _ room);
      out_after = rw (closing-other s.args.state s.args.records.now k.in_default.not-Steps) c.put.ensures.out_after;
    }
