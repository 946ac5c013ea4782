-- `payload` meets its contract: an accepted bundle has 32 bytes. Assumes nothing.
use mathlib.Core.Path.{◌≡◌, sym, ap, ◌∙◌}
use Rattle.octets.specs.Octets.{advance}
use Rattle.refusal.specs.Outcome.{done}
use Prim.Native.Nat.{ℕ}
use native.Mathlib.Omega.{arith}
use Rattle.bundle.specs.Bundle.{read, reading_of}
use Rattle.bundle.proofs.Accepted.{accepted-readable, accepted-payload, refused-payload}
use Rattle.bundle.proofs.payload.Goals as goal
use Rattle.bundle.proofs.payload.Goals.{In-Ok}

accepted : (c : In-Ok) → read c.args.config c.args.bundle.now ≡ done c.in-Ok.field-0
accepted c = sym c.read.ensures ∙ ap reading_of c.in-Ok.is

pub slice_bounds-result-end : goal.slice_bounds-result-end
slice_bounds-result-end c = let long = (accepted-readable _ _ _ (accepted c)).0.long in omega arith

pub returns-in-Ok : goal.returns-in-Ok
returns-in-Ok c =
    let (same, start) = accepted-payload _ _ _ (accepted (goal.at.returns-in-Ok c).In-Ok) in
    record {
      result_value = sym same;
      ref_ptr_value = ap (λ (k : ℕ). advance k c.args.bundle.ref_ptr) (sym start);
    }

pub returns-in-Err : goal.returns-in-Err
returns-in-Err c =
    let (same, start) = refused-payload _ _ _ (sym c.read.ensures ∙ ap reading_of c.in-Err.is) in
    record {
      result_value = sym same;
      ref_ptr_value = ap (λ (k : ℕ). advance k c.args.bundle.ref_ptr) (sym start);
    }
