-- `broadcast` meets its contract. Assumes nothing.
use mathlib.Core.Path.{◌≡◌, sym, ap, ◌∙◌}
use mathlib.Core.Bool.{true, true≢false}
use mathlib.Core.List.{List}
use mathlib.Core.Logic.{inl, inr}
use Prim.Native.Nat.{ℕ, ◌<◌}
use native.Mathlib.Omega.{arith}
use lib.ListN.{length, take, drop}
use Rattle.octets.specs.Octets.{same}
use Rattle.text.specs.Text.{ascii, after_fields}
use Rattle.text.proofs.Bytewise.{bytewise}
use Rattle.text.proofs.FieldPositions.{NumberRead}
use Rattle.row.specs.Row.{payload_digits, in_system}
use Rattle.row.specs.RowParts.{hex_payload_in}
use Rattle.row.proofs.RowFields.{dashes, DashesRead, dashes-there, dashes-some, dashes-read, starts-inside, starts-part, broadcast-row, broadcast-refused}
use Rattle.row.proofs.RowParts.{node-read, node-missing, payload-read, payload-missing}
use Rattle.row.proofs.ActLine.broadcast.Goals as goal
use Rattle.row.proofs.ActLine.broadcast.Goals.{In_ok-node, In_ok-get, In_ok-digits}

-- ---- what is known at each place
node-known : (c : In_ok-node) → (in_system c.args.self.n c.args.self.line.now ≡ true) × NumberRead 255 1 c.args.self.line.now c.in_ok-node.node c.in_ok-node.at
node-known c = node-read _ _ (record { here = c.args.self.after_act }) c.node.ensures _ _ c.in_ok-node.was

part-known : (c : In_ok-get) → c.in_ok-get.field-0.now ≡ after_fields 2 c.args.self.line.now
part-known c = starts-part (node-known (goal.at.In_ok-get c).In_ok-node).1.starts _ c.in_ok-get.ensures.lookup.0.2

dashes-known : (c : In_ok-digits) → DashesRead c.args.self.line.now
unfolding ascii
dashes-known c =
    let part = part-known (goal.at.In_ok-digits c).In_ok-get in
    dashes-read _ (ap (λ (xs : List ℕ). same (take 6 xs) dashes) (sym part) ∙ sym (bytewise _ _) ∙ c.in_ok-digits.ensures.cases.0)

payload-reader : (c : In_ok-digits) → c.in_ok-digits.digits.now ≡ payload_digits c.args.self.line.now
payload-reader c =
    c.in_ok-digits.ensures.cases.1 ∙ ap (drop 6) (part-known (goal.at.In_ok-digits c).In_ok-get) ∙ sym (dashes-known c).payload

pub returns-in_err-node : goal.returns-in_err-node
returns-in_err-node c =
    c.from_residual.ensures
    ∙ broadcast-refused _ _ (λ f. node-missing _ _ (record { here = c.args.self.after_act }) c.node.ensures c.in_err-node.was f.at-node)

pub returns-in_err-get : goal.returns-in_err-get
returns-in_err-get c =
    let start = (node-known (goal.at.returns-in_err-get c).In_ok-node).1.starts in
    let beyond : length c.args.self.line.now < c.in_ok-node.at = elim c.in_err-get.ensures.lookup.0 [ inl h ↦ h | inr h ↦ absurd (omega arith) ] in
    c.from_residual-in_err-get.ensures
    ∙ broadcast-refused _ _ (λ f. omega (arith, starts-inside start (dashes-some _ _ f)))

pub returns-in_err-digits : goal.returns-in_err-digits
unfolding ascii
returns-in_err-digits c =
    let part = part-known (goal.at.returns-in_err-digits c).In_ok-get in
    c.from_residual-in_err-digits.ensures
    ∙ broadcast-refused _ _ (λ f. true≢false (sym (dashes-there _ _ f) ∙ ap (λ (xs : List ℕ). same (take 6 xs) dashes) (sym part) ∙ sym (bytewise _ _) ∙ c.in_err-digits.ensures.cases))

pub returns-in_err-payload : goal.returns-in_err-payload
returns-in_err-payload c =
    let reader = c.read_payload.ensures ∙ ap hex_payload_in (payload-reader (goal.at.returns-in_err-payload c).In_ok-digits) in
    c.from_residual-in_err-payload.ensures
    ∙ broadcast-refused _ _ (λ f. payload-missing _ reader c.in_err-payload.was f.payload)

pub returns : goal.returns
returns c =
    let (at-node, number) = node-known (goal.at.returns c).In_ok-node in
    let read = dashes-known (goal.at.returns c).In_ok-digits in
    let reader = c.read_payload.ensures ∙ ap hex_payload_in (payload-reader (goal.at.returns c).In_ok-digits) in
    let (digits, payload) = payload-read _ reader _ c.in_ok-payload.was in
    broadcast-row _ _ number.is payload
    (record { at-node = at-node; no-sender = read.no-sender; no-seq = read.no-seq; no-signers = read.no-signers; payload = digits })
