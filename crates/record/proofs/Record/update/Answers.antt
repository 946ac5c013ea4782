-- `update` meets its contract: the first word decides between the cases, and the payload between the last two. Assumes nothing.
use mathlib.Core.Path.{◌≡◌, sym, ap, ◌∙◌}
use mathlib.Core.List.{List}
use Prim.Native.Nat.{ℕ}
use native.Mathlib.Omega.{arith}
use Rattle.octets.proofs.Same.{same-says, same-flip}
use Rattle.payload.specs.Payload as payload
use Rattle.note.specs.Note as note
use Rattle.config.specs.Config.{quorum}
use Rattle.protocol.specs.Update as protocol
use Rattle.record.specs.Record.{bytes, decoded, encoded_update}
use Rattle.record.proofs.Words.{Fits, empty-words, held-words, delivered-words}
use Rattle.record.proofs.WellFormed.{has-state-held}
use Rattle.record.proofs.UpdateCases.{update-delivered, encoded-refused}
use Rattle.record.proofs.Record.update.Goals as goal
use Rattle.record.proofs.Record.update.Goals.{After-equals, Start}

-- the start, from where the payloads are compared
abbrev start : After-equals → Start
start c = (goal.at.After-equals c).Start

-- each word fits, as its type says
words-fit : (c : Start) → Fits c.args.self
words-fit c =
    record {
      head-fits = omega arith;
      signers-fits = omega arith;
      payload-fits = record { high_fits = omega arith; low_fits = omega arith };
      note-fits = record { signers-fits = omega arith; zero-fits = omega arith; payload-fits = record { high_fits = omega arith; low_fits = omega arith } };
    }

-- receiving on a record that is known
received-on : (c : Start) {r : protocol.Record} → decoded (bytes c.args.self) ≡ r
    → encoded_update (protocol.update c.args.config.own (quorum c.args.config) c.args.signers (payload.bytes c.args.payload) r)
    ≡ encoded_update (protocol.update c.args.config.own (quorum c.args.config) c.args.signers (payload.bytes c.args.payload) (decoded (bytes c.args.self)))
received-on c e = rw e

held-known : (c : After-equals) → decoded (bytes c.args.self) ≡ protocol.Held c.args.self.signers (payload.bytes c.args.self.payload) (note.decoded (note.bytes c.args.self.note))
held-known c =
    let held = has-state-held c.args.self c.requires.has_state c.if-state-eq0.false c.if-state-eq-DELIVERED.false in
    held-words c.args.self (words-fit (start c)) (omega (arith, held))

pub returns-then-state-eq-DELIVERED : goal.returns-then-state-eq-DELIVERED
returns-then-state-eq-DELIVERED c =
    encoded-refused _ _
    (ap (protocol.update _ _ _ _) (delivered-words c.args.self (words-fit (goal.at.returns-then-state-eq-DELIVERED c).Start) (omega (arith, c.if-state-eq-DELIVERED.true))) ∙ update-delivered _ _ _ _ _ _ _)

pub returns-then-state-eq0 : goal.returns-then-state-eq0
returns-then-state-eq0 c = c.sign.ensures ∙ received-on (goal.at.returns-then-state-eq0 c).Start (empty-words c.args.self (words-fit (goal.at.returns-then-state-eq0 c).Start) (omega (arith, c.if-state-eq0.true)))

pub returns-then-equals : goal.returns-then-equals
returns-then-equals c =
    let compared = c in
    let same = sym (same-says _ _ (sym compared.equals.ensures ∙ c.if-equals.true)) in
    c.join.ensures
    ∙ received-on (start (goal.at.returns-then-equals c).After-equals)
    (held-known (goal.at.returns-then-equals c).After-equals ∙ ap (λ (x : List ℕ). protocol.Held compared.args.self.signers x (note.decoded (note.bytes compared.args.self.note))) same)

pub second-requires : goal.second-requires
second-requires c = same-flip _ _ ∙ sym c.equals.ensures ∙ c.if-equals.false

pub returns : goal.returns
returns c = c.second.ensures ∙ received-on (start (goal.at.returns c).After-equals) (held-known (goal.at.returns c).After-equals)
