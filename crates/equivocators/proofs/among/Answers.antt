-- `among` meets its contract: its word is the union of what each two of the four halves come to, of which the held ones alone have signers where nothing is noted.
-- Assumes nothing.
use mathlib.Core.Path.{◌≡◌, sym, ap, ◌∙◌}
use mathlib.Core.List.{[], ◌∷◌}
use Prim.Native.Nat.{ℕ}
use Rattle.signers.specs.Signers.{member}
use Rattle.record.specs.declared.Record.{Record}
use Rattle.equivocators.specs.declared.Half.{Half}
use Rattle.equivocators.specs.Entries.{Entry, signed_two}
use Rattle.equivocators.specs.Inner.{entry_of, among_records}
use Rattle.equivocators.specs.Found.{held_half, noted_half}
use Rattle.equivocators.proofs.Entries.{both-distinct, four, four-two, joined}
use Rattle.equivocators.proofs.among.Goals as goal

-- a half as an entry
abbrev entry : Half → Entry
entry h = entry_of h.signers h.payload

-- the four halves are those of the two records
module _ (here there : Record) (a b d e : Half) (at_a : a ≡ held_half here) (at_b : b ≡ noted_half here) (at_d : d ≡ held_half there) (at_e : e ≡ noted_half there) where
  told : (node : ℕ) → signed_two (entry a ∷ entry b ∷ entry d ∷ entry e ∷ []) node ≡ among_records here there node
  told node = rw (at_a, at_b, at_d, at_e)

pub returns-then-other_noted-eq0 : goal.returns-then-other_noted-eq0
returns-then-other_noted-eq0 c =
    let a = c.held-held in
    let b = c.noted-noted in
    let d = c.held-other_held in
    let e = c.noted-other_noted in
    λ node.
    c.signed_both-both_held.ensures node
    ∙ sym (four-two (entry a.result) (entry b.result) (entry d.result) (entry e.result) node c.if-noted-eq0.true c.if-other_noted-eq0.true)
    ∙ told c.args.here c.args.there _ _ _ _ a.ensures b.ensures d.ensures e.ensures node

pub returns : goal.returns
returns c =
    let a = c.held-held in
    let b = c.noted-noted in
    let d = c.held-other_held in
    let e = c.noted-other_noted in
    λ node.
    joined _ _ _ node _ _ c.union-3.ensures
    (joined _ _ _ node _ _ c.union-by_held.ensures
    (ap (λ (w : ℕ). member w node) c.common.ensures ∙ both-distinct (entry a.result) (entry b.result) node (rw (a.ensures, b.ensures) c.requires.distinct))
    (joined _ _ _ node _ _ c.union.ensures (c.signed_both-both_held.ensures node) (c.signed_both.ensures node)))
    (joined _ _ _ node _ _ c.union-2.ensures
    (joined _ _ _ node _ _ c.union-by_noted.ensures (c.signed_both-2.ensures node) (c.signed_both-3.ensures node))
    (ap (λ (w : ℕ). member w node) c.common-by_other.ensures ∙ both-distinct (entry d.result) (entry e.result) node (rw (d.ensures, e.ensures) c.requires.distinct_2)))
    ∙ sym (four (entry a.result) (entry b.result) (entry d.result) (entry e.result) node)
    ∙ told c.args.here c.args.there _ _ _ _ a.ensures b.ensures d.ensures e.ensures node
