-- `signed_both` meets its contract: of one payload nobody has signed two, and of two the common signers have. Assumes nothing.
use mathlib.Core.Path.{sym, ◌∙◌}
use Rattle.signers.proofs.Members.{nobody}
use Rattle.equivocators.specs.Inner.{entry_of}
use Rattle.equivocators.proofs.Entries.{both-same, both-other}
use Rattle.equivocators.proofs.Half.signed_both.Goals as goal

pub returns-then-equals : goal.returns-then-equals
returns-then-equals c =
    let a = c.args in
    λ node. nobody node ∙ sym (both-same (entry_of a.self.signers a.self.payload) (entry_of a.other.signers a.other.payload) node (sym c.equals.ensures ∙ c.if-equals.true))

pub returns-else-equals : goal.returns-else-equals
returns-else-equals c =
    let a = c.args in
    λ node.
    rw c.common.ensures
    (both-other (entry_of a.self.signers a.self.payload) (entry_of a.other.signers a.other.payload) node (sym c.equals.ensures ∙ c.if-equals.false))
