-- `write` meets its contract: each refusal follows from the tests passed before it, and the bytes written are the bundle's.
-- Assumes nothing.
use mathlib.Core.Bool.{true}
use mathlib.Core.Path.{◌≡◌, sym, ap, ◌∙◌}
use borrow.Author.Tests.{eq-eqb}
use Rattle.payload.specs.Payload.{bytes}
use Rattle.refusal.specs.Outcome.{refused, done, unless}
use Rattle.refusal.specs.Refusal.{number_of}
use Rattle.refusal.proofs.Passed.{passed-on}
use Rattle.refusal.proofs.Reasons.{plain-told, left-alone, done-clear}
use Rattle.config.specs.Config.{good, slot_of_day}
use Rattle.bundle.specs.declared.Header.{Header}
use Rattle.bundle.specs.Bundle.{header_reasons, bundle_of, header_of_day, write, encoded}
use Rattle.bundle.proofs.Fields.{payload-loaded}
use Rattle.bundle.proofs.Accepted.{writable-written, write-unconfigured, write-header, write-payload, write-out}
use Rattle.bundle.proofs.write.Goals as goal
use Rattle.bundle.proofs.write.Goals.{After-check, After-from_residual, After-load, Else-not-good, Else-out-ne-SIZE, In_ok-check, Start}

-- ---- the places on the way, each from a later one, and what is known there
abbrev entry : Else-not-good → Start
entry c = (goal.at.Else-not-good c).Start

abbrev configured : After-check → Else-not-good
configured c = (goal.at.After-check c).Else-not-good

abbrev fine : Else-out-ne-SIZE → In_ok-check
fine c = (goal.at.Else-out-ne-SIZE c).In_ok-check

abbrev checked : In_ok-check → After-check
checked c = (goal.at.In_ok-check c).After-check

good-known : (c : Else-not-good) → good c.args.config ≡ true
good-known c = sym c.good.ensures ∙ c.if-not-good.false

-- what is checked is the header of the day
module _ (c : After-check) where
  abbrev given : Start
  given = entry (configured c)

  abbrev header : Header
  header = header_of_day given.args.config given.args.sender given.args.seq given.args.signers

fine-known : (c : In_ok-check) → unless {A = Unit} (header_reasons (given (checked c)).args.config (header (checked c))) tt ≡ done tt
unfolding slot_of_day
fine-known c = sym c.in_ok-check.ensures

pub returns-then-not-good : goal.returns-then-not-good
returns-then-not-good c = record {
  result_value = plain-told _ _ (write-unconfigured _ _ _ _ _ _ (sym c.good.ensures ∙ c.if-not-good.true));
  out_after = left-alone _ _ _ _ (write-unconfigured _ _ _ _ _ _ (sym c.good.ensures ∙ c.if-not-good.true));
}

-- what `check` refuses, writing refuses
stopped : (c : After-from_residual)
    → write c.args.config c.args.sender c.args.seq c.args.signers c.args.payload.now c.args.out.now ≡ refused (number_of c.in_err-check.field-0.0)
unfolding slot_of_day
stopped c = write-header c.args.config c.args.sender c.args.seq c.args.signers c.args.payload.now c.args.out.now _ (sym c.good.ensures ∙ c.if-not-good.false) (sym c.in_err-check.ensures)

pub returns-in_err-check : goal.returns-in_err-check
returns-in_err-check c = record {
  result_value = passed-on _ _ _ c.from_residual.ensures.1 ∙ plain-told _ _ (stopped c);
  out_after = left-alone _ _ _ _ (stopped c);
}

pub returns-then-payload-ne-SIZE : goal.returns-then-payload-ne-SIZE
returns-then-payload-ne-SIZE c = record {
  result_value = plain-told _ _ (write-payload _ _ _ _ _ _ (good-known (configured (checked (goal.at.returns-then-payload-ne-SIZE c).In_ok-check))) (fine-known (goal.at.returns-then-payload-ne-SIZE c).In_ok-check) c.if-payload-ne-SIZE.true);
  out_after = left-alone _ _ _ _ (write-payload _ _ _ _ _ _ (good-known (configured (checked (goal.at.returns-then-payload-ne-SIZE c).In_ok-check))) (fine-known (goal.at.returns-then-payload-ne-SIZE c).In_ok-check) c.if-payload-ne-SIZE.true);
}

pub returns-then-out-ne-SIZE : goal.returns-then-out-ne-SIZE
returns-then-out-ne-SIZE c = record {
  result_value = plain-told _ _ (write-out _ _ _ _ _ _ (good-known (configured (checked (goal.at.returns-then-out-ne-SIZE c).In_ok-check))) (fine-known (goal.at.returns-then-out-ne-SIZE c).In_ok-check) c.if-payload-ne-SIZE.false c.if-out-ne-SIZE.true);
  out_after = left-alone _ _ _ _ (write-out _ _ _ _ _ _ (good-known (configured (checked (goal.at.returns-then-out-ne-SIZE c).In_ok-check))) (fine-known (goal.at.returns-then-out-ne-SIZE c).In_ok-check) c.if-payload-ne-SIZE.false c.if-out-ne-SIZE.true);
}

-- once all tests are passed, what is written is the bundle
module _ (c : Else-out-ne-SIZE) where
  abbrev asked : After-check
  asked = checked (fine c)

  written : write (given asked).args.config (given asked).args.sender (given asked).args.seq (given asked).args.signers (given asked).args.payload.now (given asked).args.out.now
      ≡ done (bundle_of (header asked) (given asked).args.payload.now)
  written =
      writable-written _ _ _ _ _ _
      (record {
        configured = good-known (configured asked);
        clear = (done-clear _ _ _ (fine-known (fine c))).0;
        whole = c.if-payload-ne-SIZE.false;
        room = c.if-out-ne-SIZE.false;
      })

-- what `encode` leaves is the bundle
encoded-known : (c : After-load)
    → encoded (header (asked (goal.at.After-load c).Else-out-ne-SIZE)) (bytes c.load.result) (given (asked (goal.at.After-load c).Else-out-ne-SIZE)).args.out.now
    ≡ bundle_of (header (asked (goal.at.After-load c).Else-out-ne-SIZE)) (given (asked (goal.at.After-load c).Else-out-ne-SIZE)).args.payload.now
unfolding encoded
encoded-known c =
    rw (eq-eqb _ _ c.if-out-ne-SIZE.false)
    (ap (bundle_of (header (asked (goal.at.After-load c).Else-out-ne-SIZE))) (c.load.ensures ∙ payload-loaded _ c.if-payload-ne-SIZE.false))

pub returns : goal.returns
unfolding slot_of_day
returns c =
    let left = c in
    let loaded = left in
    record {
      result_value = rw (written (goal.at.returns c).Else-out-ne-SIZE);
      out_after = rw (written (goal.at.returns c).Else-out-ne-SIZE) (left.encode.ensures ∙ encoded-known (goal.at.returns c).After-load);
    }
