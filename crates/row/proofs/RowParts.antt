-- What the answers of the private functions say: of the node of a row, and of a payload's digits.
-- Assumes nothing.
use mathlib.Core.Path.{◌≡◌, refl, sym, ap, ◌∙◌}
use mathlib.Core.Bool.{Bool, true, false, cond}
use mathlib.Core.List.{List}
use Prim.Native.Nat.{ℕ}
use native.Mathlib.Omega.{arith}
use Rattle.std.specs.Prelude.{Option, Some, None}
use Rattle.payload.specs.declared.Payload.{Payload}
use Rattle.text.specs.Text.{hex, number_at}
use Rattle.text.proofs.FieldPositions.{Starts, NumberRead, number_read, number-missing}
use Rattle.row.specs.Row.{payload_of_digits, in_system}
use Rattle.row.specs.RowParts.{node_in, hex_payload_in}
use Rattle.row.proofs.Choices.{refused}
use Rattle.row.proofs.RowFields.{NodeField, node-field}

-- ---- the node

pub node-refused : (n : ℕ) (line : List ℕ) → (NodeField n line → ⊥) → None ≡ node_in n line
unfolding node_in
node-refused n line not = refused (in_system n line) (number_at 255 line 2) None (λ e. not (node-field n line e))

module _ (n : ℕ) (line : List ℕ) (start : Starts 1 2 line) {read : Option (ℕ × ℕ)} (reader : read ≡ node_in n line) where
  -- a node of the system, and where the next field starts,
  pub node-read : (v next : ℕ) → read ≡ Some (v, next) → (in_system n line ≡ true) × NumberRead 255 1 line v next
  unfolding node_in
  node-read v next e = go (in_system n line) refl (sym reader ∙ e)
    where
      go : (t : Bool) → in_system n line ≡ t → cond t (number_at 255 line 2) None ≡ Some (v, next) → (in_system n line ≡ true) × NumberRead 255 1 line v next
      go true at h = (at, number_read 255 start refl h)
      go false at h = absurd (let z : ◌≡◌ {A = ℕ} 0 1 = cc in omega arith)

  -- or none
  pub node-missing : read ≡ None → in_system n line ≡ true → ⊥
  unfolding node_in
  node-missing e at =
      number-missing 255 start (reader ∙ ap (λ (t : Bool). cond t (number_at 255 line 2) None) at) e (node-field n line at).plain

-- ---- the payload

pub payload-refused : (digits : List ℕ) → (hex 32 digits ≡ true → ⊥) → None ≡ hex_payload_in digits
unfolding hex_payload_in
payload-refused digits not = refused (hex 32 digits) (Some (payload_of_digits digits)) None not

module _ (digits : List ℕ) {read : Option Payload} (reader : read ≡ hex_payload_in digits) where
  pub payload-read : (p : Payload) → read ≡ Some p → (hex 32 digits ≡ true) × (payload_of_digits digits ≡ p)
  unfolding hex_payload_in
  payload-read p e = go (hex 32 digits) refl (sym reader ∙ e)
    where
      go : (t : Bool) → hex 32 digits ≡ t → cond t (Some (payload_of_digits digits)) None ≡ Some p → (hex 32 digits ≡ true) × (payload_of_digits digits ≡ p)
      go true f h = (f, (cc))
      go false f h = absurd (let z : ◌≡◌ {A = ℕ} 0 1 = cc in omega arith)

  pub payload-missing : read ≡ None → hex 32 digits ≡ true → ⊥
  unfolding hex_payload_in
  payload-missing e f =
      let z : ◌≡◌ {A = ℕ} 0 1 = (let both = sym reader ∙ e in cc (ap (λ (t : Bool). cond t (Some (payload_of_digits digits)) None) f)) in
      omega arith
