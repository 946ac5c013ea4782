-- `check` meets its contract: each return follows from the tests passed before it. Assumes nothing.
use mathlib.Core.Bool.{Bool, true, false, cond, not}
use mathlib.Core.Path.{◌≡◌, refl, sym, ◌∙◌}
use borrow.Author.Tests.{lt-ltb, le-ltb}
use lib.Dec.{ltb}
use Rattle.signers.specs.Signers.{within}
use Rattle.refusal.specs.Outcome.{Outcome, refused, done, unless}
use Rattle.config.specs.Config.{slots}
use Rattle.config.proofs.Laws.{within-mask, past-mask}
use Rattle.bundle.specs.Bundle.{header_reasons}
use Rattle.bundle.proofs.check.Goals as goal
use Rattle.bundle.proofs.check.Goals.{After-member, After-struct_known-4-1, Else-config-header, Else-header-ge-SLOTS, Else-mask-header}

abbrev sender-passed : Else-header-ge-SLOTS → Else-config-header
sender-passed c = (goal.at.Else-header-ge-SLOTS c).Else-config-header

abbrev seq-passed : After-struct_known-4-1 → Else-header-ge-SLOTS
seq-passed c = (goal.at.After-struct_known-4-1 c).Else-header-ge-SLOTS

sender-known : (c : Else-config-header) → ltb c.args.header.sender c.args.config.n ≡ true
sender-known c = lt-ltb _ _ c.if-config-header.false

seq-known : (c : Else-header-ge-SLOTS) → ltb c.args.header.seq slots ≡ true
seq-known c = lt-ltb _ _ c.if-header-ge-SLOTS.false

signers-known : (c : Else-mask-header) → within c.args.header.signers c.args.config.n ≡ true
signers-known c = within-mask _ _ c.requires (rw c.mask.ensures at c.if-mask-header.false)

turned : (b : Bool) → ◌≡◌ {A = Outcome Unit} (cond (not b) (refused 8) (done tt)) (cond b (done tt) (refused 8))
turned true = refl
turned false = refl

-- the last two returns differ in what `member` answered
last-test : (c : After-member) (b : Bool) → c.member.result ≡ b
    → unless {A = Unit} (header_reasons c.args.config c.args.header) tt ≡ cond b (done tt) (refused 8)
unfolding header_reasons unless
last-test c b e =
    simp (sender-known (sender-passed (seq-passed (goal.at.After-member c).After-struct_known-4-1)), seq-known (seq-passed (goal.at.After-member c).After-struct_known-4-1), signers-known (goal.at.After-member c).Else-mask-header, sym c.member.ensures ∙ e)
    (turned b)

pub returns-then-config-header : goal.returns-then-config-header
unfolding header_reasons unless
returns-then-config-header c = simp (le-ltb _ _ c.if-config-header.true)

pub returns-then-header-ge-SLOTS : goal.returns-then-header-ge-SLOTS
unfolding header_reasons unless
returns-then-header-ge-SLOTS c = simp (sender-known (goal.at.returns-then-header-ge-SLOTS c).Else-config-header, le-ltb _ _ c.if-header-ge-SLOTS.true)

pub returns-then-mask-header : goal.returns-then-mask-header
unfolding header_reasons unless
returns-then-mask-header c =
    simp (
      sender-known (sender-passed (seq-passed (goal.at.returns-then-mask-header c).After-struct_known-4-1)),
      seq-known (seq-passed (goal.at.returns-then-mask-header c).After-struct_known-4-1),
      past-mask _ _ c.requires (rw c.mask.ensures at c.if-mask-header.true),
    )

pub returns-then-not-member : goal.returns-then-not-member
returns-then-not-member c = sym (last-test (goal.at.returns-then-not-member c).After-member false (c.if-not-member.true))

pub returns : goal.returns
returns c = sym (last-test (goal.at.returns c).After-member true (c.if-not-member.false))
