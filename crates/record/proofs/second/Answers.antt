-- `second` meets its contract: the cases of receiving on a record that holds another payload. Assumes nothing.
use mathlib.Core.Path.{◌≡◌, refl, sym, ◌∙◌}
use mathlib.Core.Bool.{false}
use Prim.Native.Nat.{◌<◌}
use Rattle.signers.specs.Signers.{member, size}
use Rattle.config.specs.Config.{quorum}
use Rattle.record.proofs.UpdateCases.{update-other-unknown, update-other-full, update-third, update-noted, encoded-refused, encoded-delivered, encoded-held}
use Rattle.record.proofs.second.Goals as goal
use Rattle.record.proofs.second.Goals.{After-size, Else-quorum-size}

unsigned : (c : After-size) → member c.args.signers c.args.config.own ≡ false
unsigned c = sym c.member.ensures ∙ c.if-member.false

too_few : (c : Else-quorum-size) → size c.args.signers < quorum c.args.config
too_few c = rw (c.quorum.ensures, c.size.ensures) at c.if-quorum-size.false

pub returns-then-member : goal.returns-then-member
returns-then-member c = encoded-refused _ _ (update-other-unknown _ _ _ _ _ _ _ c.requires (sym c.member.ensures ∙ c.if-member.true))

pub returns-then-quorum-size : goal.returns-then-quorum-size
returns-then-quorum-size c =
    let sized = c in
    encoded-delivered _ _ _ _ _ _ _ refl c.noted.ensures
    (update-other-full _ _ _ _ _ _ _ sized.requires (unsigned (goal.at.returns-then-quorum-size c).After-size) (rw (sized.quorum.ensures, sized.size.ensures) at c.if-quorum-size.true))
    c.delivered.ensures

pub returns-then-notes_other : goal.returns-then-notes_other
returns-then-notes_other c =
    let asked = c in
    let sized = asked in
    encoded-refused _ _
    (update-third _ _ _ _ _ _ _ sized.requires (unsigned (goal.at.returns-then-notes_other c).After-size) (too_few (goal.at.returns-then-notes_other c).Else-quorum-size) (sym asked.notes_other.ensures ∙ c.if-notes_other.true))

pub returns : goal.returns
returns c =
    let asked = c in
    let sized = asked in
    encoded-held _ _ _ _ _ _ _ refl c.joined.ensures _
    (update-noted _ _ _ _ _ _ _ sized.requires (unsigned (goal.at.returns c).After-size) (too_few (goal.at.returns c).Else-quorum-size) (sym asked.notes_other.ensures ∙ c.if-notes_other.false))
    c.holding.ensures
