-- `sign` meets its contract: the cases of receiving on an empty record. Assumes nothing.
use mathlib.Core.Path.{◌≡◌, refl, sym, ◌∙◌}
use mathlib.Core.Bool.{false}
use Rattle.signers.specs.Signers.{member}
use Rattle.record.specs.Record.{encoding}
use Rattle.record.proofs.UpdateCases.{update-unknown, update-at-once, update-signed, encoded-refused, encoded-delivered, encoded-held}
use Rattle.record.proofs.sign.Goals as goal
use Rattle.record.proofs.sign.Goals.{After-insert-signed}

unsigned : (c : After-insert-signed) → member c.args.signers c.args.config.own ≡ false
unsigned c = sym c.member.ensures ∙ c.if-member.false

pub returns-then-member : goal.returns-then-member
returns-then-member c = encoded-refused _ _ (update-unknown _ _ _ _ (sym c.member.ensures ∙ c.if-member.true))

pub returns-then-quorum-size : goal.returns-then-quorum-size
returns-then-quorum-size c =
    let sized = c in
    let known = c in
    encoded-delivered _ _ _ _ _ _ _ known.insert-signed.ensures c.nothing.ensures
    (update-at-once _ _ _ _ (unsigned (goal.at.returns-then-quorum-size c).After-insert-signed) (rw (sized.quorum.ensures, sized.size.ensures, known.insert-signed.ensures) at c.if-quorum-size.true))
    c.delivered.ensures

pub returns : goal.returns
unfolding encoding
returns c =
    let known = c in
    encoded-held _ _ _ _ _ _ _ known.insert-signed.ensures refl _
    (update-signed _ _ _ _ (unsigned (goal.at.returns c).After-insert-signed) (rw (c.quorum.ensures, c.size.ensures, known.insert-signed.ensures) at c.if-quorum-size.false))
    c.held.ensures
