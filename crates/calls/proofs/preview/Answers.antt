-- `preview` meets its contract: what was decided is answered, and not stored. Assumes nothing.
use mathlib.Core.Path.{◌≡◌, ap, ◌∙◌}
use mathlib.Core.List.{List}
use Prim.Native.Nat.{ℕ}
use Rattle.refusal.specs.Outcome.{Outcome, refused}
use Rattle.refusal.specs.Refusal.{number_of}
use Rattle.refusal.proofs.Passed.{passed-on}
use Rattle.protocol.specs.Update.{Answer}
use Rattle.calls.specs.Receive.{receive}
use Rattle.calls.specs.Inner.{settled_receipt, settled_out}
use Rattle.calls.proofs.Refusals.{receive-no-effect}
use Rattle.calls.proofs.Settling.{settled-receipt, settled-out, decided-refused}
use Rattle.calls.proofs.preview.Goals as goal
use Rattle.calls.proofs.preview.Goals.{After-from_residual}

pub returns : goal.returns
returns c =
    let made = c.in_ok-received.ensures.result_value in
    record {
      value = c.answer.ensures.result_value ∙ ap settled_receipt made ∙ settled-receipt _ _ _ _;
      out_after = c.answer.ensures.out_after
          ∙ ap (λ (o : Outcome (Answer × List ℕ)). settled_out c.args.bundle.now o c.args.out.now) made
          ∙ settled-out _ _ _ _ (λ i. (c.type_inv.bundle i).fits);
    }

-- what is refused where it is decided is refused
stopped : (c : After-from_residual) → receive c.args.config c.args.bundle.now c.args.records.now c.args.out.now ≡ refused (number_of c.in_err-received.field-0.0)
stopped c = decided-refused _ _ _ _ _ c.in_err-received.ensures.result_value

pub returns-in_err-received : goal.returns-in_err-received
returns-in_err-received c =
    let (told, (kept, same)) = receive-no-effect _ _ _ _ _ (stopped c) in
    record { value = passed-on _ _ _ c.from_residual.ensures.1 ∙ told; out_after = same }
