-- `half_well_formed` meets its contract: one branch for each state, after the tests that they share. Assumes nothing.
use mathlib.Core.Path.{◌≡◌, sym, ap, ◌∙◌}
use mathlib.Core.Bool.{true}
use lib.Dec.{leb}
use borrow.Author.Tests.{eq-eqb, ne_eqb, le-leb, lt-leb}
use Rattle.record.specs.Inner.{half_well_formed}
use Rattle.record.proofs.Record.half_well_formed.Goals as goal
use Rattle.record.proofs.Record.half_well_formed.Goals.{Else-all-self}

-- only nodes have signed, from there on
inside : (c : Else-all-self) → leb c.args.self.signers c.args.all ≡ true
inside c = le-leb _ _ c.if-all-self.false

pub returns-then-all-self : goal.returns-then-all-self
unfolding half_well_formed
returns-then-all-self c = simp (lt-leb _ _ c.if-all-self.true)

pub returns-then-not-meets : goal.returns-then-not-meets
unfolding half_well_formed
returns-then-not-meets c =
    let held = c in
    simp (inside (goal.at.returns-then-not-meets c).Else-all-self, eq-eqb _ _ held.if-self-eq-HELD.true, sym c.meets.ensures ∙ c.if-not-meets.true)

pub returns-then-self-eq-HELD : goal.returns-then-self-eq-HELD
unfolding half_well_formed
returns-then-self-eq-HELD c =
    let asked = c in
    let held = asked in
    simp (inside (goal.at.returns-then-self-eq-HELD c).Else-all-self, eq-eqb _ _ held.if-self-eq-HELD.true, sym asked.meets.ensures ∙ c.if-not-meets.false) c.meets-then-self-eq-HELD.ensures

pub returns-then-not-meets-2 : goal.returns-then-not-meets-2
unfolding half_well_formed
returns-then-not-meets-2 c =
    let other = c in
    simp (inside (goal.at.returns-then-not-meets-2 c).Else-all-self, ne_eqb _ _ other.if-self-eq-HELD.false, sym c.meets-2.ensures ∙ c.if-not-meets-2.true)

pub returns-then-self-eq-DELIVERED : goal.returns-then-self-eq-DELIVERED
unfolding half_well_formed
returns-then-self-eq-DELIVERED c =
    let signed = c in
    let asked = signed in
    let other = asked in
    simp (inside (goal.at.returns-then-self-eq-DELIVERED c).Else-all-self, ne_eqb _ _ other.if-self-eq-HELD.false, sym asked.meets-2.ensures ∙ signed.if-not-meets-2.false, eq-eqb _ _ c.if-self-eq-DELIVERED.true)
    (ap (leb _) c.size.ensures)

pub returns : goal.returns
unfolding half_well_formed
returns c =
    let signed = c in
    let asked = signed in
    let other = asked in
    simp (inside (goal.at.returns c).Else-all-self, ne_eqb _ _ other.if-self-eq-HELD.false, sym asked.meets-2.ensures ∙ signed.if-not-meets-2.false, ne_eqb _ _ c.if-self-eq-DELIVERED.false)
