-- `receive` meets its contract: each field is read where the one before it ended. Assumes nothing.
use mathlib.Core.Path.{◌≡◌, sym, ap, ◌∙◌}
use mathlib.Core.Bool.{true, true≢false}
use mathlib.Core.List.{List, [], ◌∷◌}
use mathlib.Core.Logic.{inl, inr}
use Prim.Native.Nat.{ℕ, ◌<◌}
use native.Mathlib.Omega.{arith}
use lib.ListN.{length, take, drop}
use Rattle.octets.specs.Octets.{same}
use Rattle.text.specs.Text.{space, after_fields, hex, value, word_in}
use Rattle.text.proofs.Bytewise.{bytewise}
use Rattle.text.proofs.FieldPositions.{NumberRead, number_read, number-missing}
use Rattle.text.proofs.HexWords.{word_read, word-missing}
use Rattle.row.specs.Row.{payload_digits, in_system}
use Rattle.row.specs.RowParts.{hex_payload_in}
use Rattle.row.proofs.RowFields.{SignersRead, signers-there, signers-read, starts-inside, starts-part, receive-row, receive-refused}
use Rattle.row.proofs.RowParts.{node-read, node-missing, payload-read, payload-missing}
use Rattle.row.proofs.ActLine.receive.Goals as goal
use Rattle.row.proofs.ActLine.receive.Goals.{In_ok-node, In_ok-sender, In_ok-seq, In_ok-get, In_ok-signers, In_ok-digits, In_ok-signers-2}

-- ---- what is known at each place
node-known : (c : In_ok-node) → (in_system c.args.self.n c.args.self.line.now ≡ true) × NumberRead 255 1 c.args.self.line.now c.in_ok-node.node c.in_ok-node.sender_at
node-known c = node-read _ _ (record { here = c.args.self.after_act }) c.node.ensures _ _ c.in_ok-node.was

sender-known : (c : In_ok-sender) → NumberRead 255 2 c.args.self.line.now c.in_ok-sender.sender c.in_ok-sender.seq_at
sender-known c = number_read 255 (node-known (goal.at.In_ok-sender c).In_ok-node).1.starts c.byte_at.ensures c.in_ok-sender.was

seq-known : (c : In_ok-seq) → NumberRead 255 3 c.args.self.line.now c.in_ok-seq.seq c.in_ok-seq.at
seq-known c = number_read 255 (sender-known (goal.at.In_ok-seq c).In_ok-sender).starts c.byte_at-2.ensures c.in_ok-seq.was

part-known : (c : In_ok-get) → c.in_ok-get.field-0.now ≡ after_fields 4 c.args.self.line.now
part-known c = starts-part (seq-known (goal.at.In_ok-get c).In_ok-seq).starts _ c.in_ok-get.ensures.lookup.0.2

signers-part : (c : In_ok-signers) → c.in_ok-signers.signers.now ≡ take 16 (after_fields 4 c.args.self.line.now)
signers-part c = c.in_ok-signers.ensures.cases.1 ∙ ap (take 16) (part-known (goal.at.In_ok-signers c).In_ok-get)

rest-part : (c : In_ok-signers) → c.in_ok-signers.rest.now ≡ drop 16 (after_fields 4 c.args.self.line.now)
rest-part c = c.in_ok-signers.ensures.cases.2 ∙ ap (drop 16) (part-known (goal.at.In_ok-signers c).In_ok-get)

digits-known : (c : In_ok-digits) → same (take 1 (drop 16 (after_fields 4 c.args.self.line.now))) (space ∷ []) ≡ true
digits-known c =
    ap (λ (xs : List ℕ). same (take 1 xs) (space ∷ [])) (sym (rest-part (goal.at.In_ok-digits c).In_ok-signers)) ∙ sym (bytewise _ _) ∙ c.in_ok-digits.ensures.cases.0

signers-word : (c : In_ok-signers-2)
    → (hex 16 (take 16 (after_fields 4 c.args.self.line.now)) ≡ true)
    × (value 16 0 (take 16 (after_fields 4 c.args.self.line.now)) ≡ c.in_ok-signers-2.signers)
signers-word c = word_read _ (c.hex.ensures ∙ ap word_in (signers-part (goal.at.In_ok-signers-2 c).In_ok-signers)) _ c.in_ok-signers-2.was

fields-known : (c : In_ok-signers-2) → SignersRead c.args.self.line.now
fields-known c = signers-read _ (signers-word c).0 (digits-known (goal.at.In_ok-signers-2 c).In_ok-digits)

payload-part : (c : In_ok-signers-2) → c.in_ok-digits.digits.now ≡ payload_digits c.args.self.line.now
payload-part c =
    c.in_ok-digits.ensures.cases.1 ∙ ap (drop 1) (rest-part (goal.at.In_ok-signers-2 c).In_ok-signers) ∙ sym (fields-known c).payload

pub returns-in_err-node : goal.returns-in_err-node
returns-in_err-node c =
    c.from_residual.ensures
    ∙ receive-refused _ _ (λ f. node-missing _ _ (record { here = c.args.self.after_act }) c.node.ensures c.in_err-node.was f.at-node)

pub returns-in_err-sender : goal.returns-in_err-sender
returns-in_err-sender c =
    let start = (node-known (goal.at.returns-in_err-sender c).In_ok-node).1.starts in
    c.from_residual-in_err-sender.ensures ∙ receive-refused _ _ (λ f. number-missing 255 start c.byte_at.ensures c.in_err-sender.was f.sender)

pub returns-in_err-seq : goal.returns-in_err-seq
returns-in_err-seq c =
    let start = (sender-known (goal.at.returns-in_err-seq c).In_ok-sender).starts in
    c.from_residual-in_err-seq.ensures ∙ receive-refused _ _ (λ f. number-missing 255 start c.byte_at-2.ensures c.in_err-seq.was f.seq)

pub returns-in_err-get : goal.returns-in_err-get
returns-in_err-get c =
    let start = (seq-known (goal.at.returns-in_err-get c).In_ok-seq).starts in
    let beyond : length c.args.self.line.now < c.in_ok-seq.at = elim c.in_err-get.ensures.lookup.0 [ inl h ↦ h | inr h ↦ absurd (omega arith) ] in
    c.from_residual-in_err-get.ensures
    ∙ receive-refused _ _ (λ f. omega (arith, starts-inside start (omega (arith, (signers-there _ _ f).long))))

pub returns-in_err-signers : goal.returns-in_err-signers
returns-in_err-signers c =
    let part = part-known (goal.at.returns-in_err-signers c).In_ok-get in
    c.from_residual-in_err-signers.ensures
    ∙ receive-refused _ _ (λ f. omega (arith, ap length part, (signers-there _ _ f).long, c.in_err-signers.ensures.cases))

pub returns-in_err-digits : goal.returns-in_err-digits
returns-in_err-digits c =
    let rest = rest-part (goal.at.returns-in_err-digits c).In_ok-signers in
    c.from_residual-in_err-digits.ensures
    ∙ receive-refused _ _ (λ f. true≢false (sym (signers-there _ _ f).spaced ∙ ap (λ (xs : List ℕ). same (take 1 xs) (space ∷ [])) (sym rest) ∙ sym (bytewise _ _) ∙ c.in_err-digits.ensures.cases))

pub returns-in_err-signers-2 : goal.returns-in_err-signers-2
returns-in_err-signers-2 c =
    let reader = c.hex.ensures ∙ ap word_in (signers-part (goal.at.returns-in_err-signers-2 c).In_ok-signers) in
    c.from_residual-in_err-signers-2.ensures ∙ receive-refused _ _ (λ f. word-missing _ reader c.in_err-signers-2.was (signers-there _ _ f).digits)

pub returns-in_err-payload : goal.returns-in_err-payload
returns-in_err-payload c =
    let reader = c.read_payload.ensures ∙ ap hex_payload_in (payload-part (goal.at.returns-in_err-payload c).In_ok-signers-2) in
    c.from_residual-in_err-payload.ensures ∙ receive-refused _ _ (λ f. payload-missing _ reader c.in_err-payload.was f.payload)

pub returns : goal.returns
returns c =
    let (at-node, node) = node-known (goal.at.returns c).In_ok-node in
    let sender = sender-known (goal.at.returns c).In_ok-sender in
    let seq = seq-known (goal.at.returns c).In_ok-seq in
    let field-is = (fields-known (goal.at.returns c).In_ok-signers-2).signers in
    let (word, signers) = signers-word (goal.at.returns c).In_ok-signers-2 in
    let reader = c.read_payload.ensures ∙ ap hex_payload_in (payload-part (goal.at.returns c).In_ok-signers-2) in
    let (digits, payload) = payload-read _ reader _ c.in_ok-payload.was in
    receive-row _ _ node.is sender.is seq.is (ap (value 16 0) field-is ∙ signers) payload
    (record { at-node = at-node; sender = sender.plain; seq = seq.plain; signers = ap (hex 16) field-is ∙ word; payload = digits })
