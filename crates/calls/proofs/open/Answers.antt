-- `open` meets its contract: each refusal follows from the tests passed before it, and the rest is zeros. Assumes nothing.
use mathlib.Core.Bool.{true}
use mathlib.Core.Path.{◌≡◌, sym, ◌∙◌}
use Rattle.config.specs.Config.{good}
use Rattle.calls.specs.Open.{open_records}
use Rattle.calls.proofs.Refusals.{opened-bad, opened-size, opened-done}
use Rattle.calls.proofs.open.Goals as goal
use Rattle.refusal.proofs.Reasons.{plain-told, left-alone}
use Rattle.calls.proofs.open.Goals.{Else-not-good}

good-known : (c : Else-not-good) → good c.args.config ≡ true
good-known c = sym c.good.ensures ∙ c.if-not-good.false

pub returns-then-not-good : goal.returns-then-not-good
unfolding open_records
returns-then-not-good c = record {
  result_value = plain-told _ _ (opened-bad _ _ (sym c.good.ensures ∙ c.if-not-good.true));
  records_after = left-alone _ _ _ _ (opened-bad _ _ (sym c.good.ensures ∙ c.if-not-good.true));
}

pub returns-then-records-records_size : goal.returns-then-records-records_size
unfolding open_records
returns-then-records-records_size c = record {
  result_value = plain-told _ _ (opened-size _ _ (good-known (goal.at.returns-then-records-records_size c).Else-not-good) (λ q. c.if-records-records_size.true (q ∙ sym c.records_size.ensures)));
  records_after = left-alone _ _ _ _ (opened-size _ _ (good-known (goal.at.returns-then-records-records_size c).Else-not-good) (λ q. c.if-records-records_size.true (q ∙ sym c.records_size.ensures)));
}

pub returns : goal.returns
unfolding open_records
returns c =
    let work = opened-done c.args.config c.args.records.now (good-known (goal.at.returns c).Else-not-good) (c.if-records-records_size.false ∙ c.records_size.ensures) in
    record {
      result_value = rw work;
      records_after = rw work c.clear.ensures;
    }
