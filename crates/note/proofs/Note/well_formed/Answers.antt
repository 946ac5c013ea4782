-- `well_formed` meets its contract: the tests of the definition, by the note's words. Assumes nothing.
use mathlib.Core.Path.{◌≡◌, sym, ap, ◌∙◌}
use mathlib.Core.Bool.{true, not, ◌&&◌}
use native.Mathlib.Omega.{arith}
use borrow.Author.Tests.{le-leb, lt-leb}
use Rattle.octets.specs.Octets.{same}
use Rattle.payload.specs.Payload as payload
use Rattle.signers.specs.Signers.{within, member}
use Rattle.signers.proofs.Members.{within-below}
use Rattle.note.specs.Note.{well_formed, bytes}
use Rattle.note.proofs.Words.{Fits, malformed-zero, well-formed-nothing, well-formed-noted}
use Rattle.note.proofs.Note.well_formed.Goals as goal
use Rattle.note.proofs.Note.well_formed.Goals.{Else-below-self, Else-self-eq0, Start}

-- the start, from where something is noted
abbrev start : Else-self-eq0 → Start
start c = (goal.at.Else-self-eq0 c).Start

-- each word fits, as its type says
words-fit : (c : Start) → Fits c.args.self
words-fit c =
    record
    { signers-fits = omega arith; zero-fits = omega arith; payload-fits = record { high_fits = omega arith; low_fits = omega arith } }

-- by what is noted then
noted : (c : Else-self-eq0)
    → well_formed c.args.config c.args.sender (payload.bytes c.args.held) (bytes c.args.self)
    ≡ (within c.args.self.signers c.args.config.n
    && (member c.args.self.signers c.args.sender && not (same (payload.bytes c.args.self.payload) (payload.bytes c.args.held))))
noted c = well-formed-noted c.args.self (words-fit (start c)) _ _ _ c.if-self-ne0.false c.if-self-eq0.false

-- only nodes have signed
known : (c : Else-below-self) → within c.args.self.signers c.args.config.n ≡ true
known c =
    let self-fits = (words-fit (start (goal.at.Else-below-self c).Else-self-eq0)).signers-fits in
    sym (within-below _ _ self-fits) ∙ le-leb _ _ (rw c.below.ensures at c.if-below-self.false)

pub returns-then-self-ne0 : goal.returns-then-self-ne0
returns-then-self-ne0 c = sym (malformed-zero c.args.self (words-fit (goal.at.returns-then-self-ne0 c).Start) _ _ _ c.if-self-ne0.true)

pub returns-then-self-eq0 : goal.returns-then-self-eq0
returns-then-self-eq0 c = c.is_blank.ensures ∙ sym (well-formed-nothing _ (words-fit (goal.at.returns-then-self-eq0 c).Start) _ _ _ c.if-self-ne0.false c.if-self-eq0.true)

pub returns-then-below-self : goal.returns-then-below-self
returns-then-below-self c =
    let self-fits = (words-fit (start (goal.at.returns-then-below-self c).Else-self-eq0)).signers-fits in
    let past = sym (within-below _ _ self-fits) ∙ lt-leb _ _ (rw c.below.ensures at c.if-below-self.true) in
    sym (noted (goal.at.returns-then-below-self c).Else-self-eq0 ∙ rw past)

pub returns-then-not-member : goal.returns-then-not-member
returns-then-not-member c =
    let before = c in
    sym (noted (goal.at.returns-then-not-member c).Else-self-eq0 ∙ rw (known (goal.at.returns-then-not-member c).Else-below-self, sym c.member.ensures ∙ c.if-not-member.true))

pub returns : goal.returns
returns c =
    let before = c in
    ap not c.equals.ensures ∙ sym (noted (goal.at.returns c).Else-self-eq0 ∙ rw (known (goal.at.returns c).Else-below-self, sym c.member.ensures ∙ c.if-not-member.false))
