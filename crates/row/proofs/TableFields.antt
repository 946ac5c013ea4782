-- The table row by its fields: each is a plain number, the last one ends the line, and the configuration is good.
-- Assumes nothing.
use mathlib.Core.Path.{◌≡◌, refl, sym, ap, ◌∙◌}
use mathlib.Core.Bool.{Bool, true, false, cond, and-eq-true_iff, true≢false}
use mathlib.Core.List.{List, []}
use Prim.Native.Nat.{ℕ, ◌-◌, ◌^◌, ◌<◌}
use native.Mathlib.Omega.{arith}
use Rattle.std.specs.Bool.{then_some}
use Rattle.std.specs.Prelude.{Some, None}
use Rattle.config.specs.declared.Config.{Config}
use Rattle.config.specs.Config.{good}
use Rattle.octets.specs.Octets.{same}
use Rattle.text.specs.Text.{ascii, field, after_fields, plain_number, plain_up_to}
use Rattle.text.proofs.FieldPositions.{plain-whole, plain-within}
use Rattle.row.specs.Row.{table_names, config_in, is_table, table_in, FiveAreAsked}
use Rattle.row.proofs.Choices.{refused}

-- no digits are no number
no-digits : plain_up_to (2 ^ 32 - 1) [] ≡ false
unfolding plain_up_to plain_number
no-digits = refl

pub record TableFields (line : List ℕ) : Type 0 where
  pub nodes : plain_up_to 255 (field 0 line) ≡ true
  pub faults : plain_up_to 255 (field 1 line) ≡ true
  pub losses : plain_up_to 255 (field 2 line) ≡ true
  pub day : plain_up_to (2 ^ 32 - 1) (field 3 line) ≡ true
  pub quorum : plain_up_to (2 ^ 32 - 1) (field 4 line) ≡ true
  pub last : field 4 line ≡ after_fields 4 line

module _ (line : List ℕ) where
  -- what a table row is,
  parts : is_table line ≡ true → TableFields line × (good (config_in line) ≡ true)
  unfolding is_table
  parts e =
      let (nodes, others) = (and-eq-true_iff (plain_up_to 255 (field 0 line)) _).0 e in
      let (faults, others) = (and-eq-true_iff (plain_up_to 255 (field 1 line)) _).0 others in
      let (losses, others) = (and-eq-true_iff (plain_up_to 255 (field 2 line)) _).0 others in
      let (day, others) = (and-eq-true_iff (plain_up_to (2 ^ 32 - 1) (field 3 line)) _).0 others in
      let (quorum, fine) = (and-eq-true_iff (plain_up_to (2 ^ 32 - 1) (after_fields 4 line)) _).0 others in
      let last = plain-whole (2 ^ 32 - 1) (after_fields 4 line) quorum in
      (record { nodes = nodes; faults = faults; losses = losses; day = day; quorum = ap (plain_up_to (2 ^ 32 - 1)) last ∙ quorum; last = last }, fine)

  pub table-fields : is_table line ≡ true → TableFields line
  table-fields e = (parts e).0

  pub table-good : is_table line ≡ true → good (config_in line) ≡ true
  table-good e = (parts e).1

  -- whose day fits 32 bits;
  pub table-day : is_table line ≡ true → (config_in line).day < 2 ^ 32
  unfolding config_in
  table-day e =
      let f = table-fields e in
      omega (arith, plain-within (2 ^ 32 - 1) (field 3 line) f.day)

  -- so a line with other fields is none,
  pub table-refused : (TableFields line → ⊥) → None ≡ table_in line
  unfolding table_in
  table-refused not = refused (is_table line) _ None (λ e. not (table-fields e))

  -- and one with these is, if the configuration that they give is good
  pub table-read : (w : Config) → config_in line ≡ w → TableFields line → then_some (good w) w ≡ table_in line
  unfolding table_in is_table
  table-read w gives f =
      given (good w)
      ∙ rw (f.nodes, f.faults, f.losses, f.day, ap (plain_up_to (2 ^ 32 - 1)) (sym f.last) ∙ f.quorum, gives)
    where
      given : (b : Bool) → then_some b w ≡ cond b (Some w) None
      given true = refl
      given false = refl

-- fewer than five fields leave nothing for the last number
pub five-are-asked : FiveAreAsked
unfolding same table_names ascii
five-are-asked = (refl, λ line short. none line short (is_table line) refl)
  where
    none : (line : List ℕ) → after_fields 4 line ≡ [] → (b : Bool) → is_table line ≡ b → is_table line ≡ false
    none line short true e =
        let f = table-fields line e in
        absurd (true≢false (sym f.quorum ∙ ap (plain_up_to (2 ^ 32 - 1)) (f.last ∙ short) ∙ no-digits))
    none line short false e = e
