-- `play_step_row` meets its contract: by stage. Assumes nothing.
use Rattle.std.proofs.Common.{◌≡◌, ◌∙◌, ap, sym, ℕ, List, [], refl}
use Rattle.nodes.proofs.Printing.{prints-nothing}
use Rattle.stages.specs.declared.State.{State}
use Rattle.stages.specs.declared.Stage.{Stage}
use Rattle.stages.specs.declared.Stage.TheVariants.{TableNames, TableRow, StepNames, Steps, NoTable}
use Rattle.stages.specs.Stages.{read_text_at, read_text, read_records_at, read_records}
use Rattle.step.specs.Step.{printed_end, printed_over}
use Rattle.stages.proofs.play_step_row.Goals as goal

-- at any other stage nothing is done
not-steps : (state : State) (line records : List ℕ) → (state.stage ≡ Steps → ⊥) → (read_text state line records ≡ []) × (read_records state line records ≡ records)
unfolding read_text read_records
not-steps state line records other = go state.stage other
  where
    go : (stage : Stage) → (stage ≡ Steps → ⊥) → (read_text_at state stage line records ≡ []) × (read_records_at state stage line records ≡ records)
    go TableNames h = (refl, refl)
    go TableRow h = (refl, refl)
    go StepNames h = (refl, refl)
    go Steps h = absurd (h refl)
    go NoTable h = (refl, refl)

pub returns-in-Steps : goal.returns-in-Steps
unfolding read_text read_records
returns-in-Steps c = record {
  value = rw c.in-Steps.is c.play_line.ensures.value;
  out_after = rw c.in-Steps.is c.play_line.ensures.out_after;
  records_after = rw c.in-Steps.is c.play_line.ensures.records_after;
}

pub returns-in_default : goal.returns-in_default
returns-in_default c =
    let s = c.args in
    let (t, r) = not-steps s.state s.line.now s.records.now c.in_default.not-Steps in
    let (l, o) = prints-nothing s.at s.out.now in
    record {
      value = l ∙ ap (λ (text : List ℕ). printed_end s.at text s.out.now) (sym t);
      out_after = o ∙ ap (λ (text : List ℕ). printed_over s.at text s.out.now) (sym t);
      records_after = sym r;
    }
