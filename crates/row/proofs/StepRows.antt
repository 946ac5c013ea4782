-- A step row by its act: which fields decide it, and what a row that is read is. A row over 120 bytes does not have the shape anyway, so that its
-- length need not be tested.
-- Assumes nothing.
use mathlib.Core.Path.{◌≡◌, refl, sym, ap, ◌∙◌}
use mathlib.Core.Bool.{Bool, true, false, cond, and-eq-true_iff, true≢false}
use mathlib.Core.List.{List, [], ◌∷◌}
use Prim.Native.Nat.{ℕ, suc, ◌≤◌, ◌<◌}
use native.Mathlib.Omega.{arith}
use lib.Dec.{leb}
use lib.ListN.{length, get_or, take, drop, drop_of_length-le}
use lib.Seq.{get_or-take}
use borrow.Author.Tests.{leb-false, lt-leb, ne_eqb, eq-eqb}
use Rattle.std.specs.Prelude.{Option, None}
use Rattle.octets.specs.Octets.{same}
use Rattle.octets.proofs.Same.{same-says}
use Rattle.text.specs.Text.{ascii, space, before, first_field, rest_after_field, after_fields, plain_up_to}
use Rattle.text.proofs.Fields.{before_here, first-length}
use Rattle.text.proofs.FieldPositions.{empty-plain}
use Rattle.row.specs.declared.StepRow.{StepRow}
use Rattle.row.specs.Row.{act, in_system, broadcast_fields, broadcast_row, receive_fields, receive_row, is_broadcast, is_receive, row_in}
use Rattle.row.proofs.LineLengths.{Line, broadcast-line, receive-line}
use Rattle.row.proofs.RowFields.{node-field, broadcast-fields, receive-fields}

module _ (n : ℕ) (line : List ℕ) where
  -- a row over 120 bytes is unread
  pub row-long : 120 < length line → row_in n line ≡ None
  unfolding row_in
  row-long h = rw (lt-leb (length line) 120 h)

  -- and would be without that test
  pub row-untested : row_in n line ≡ cond (is_broadcast n line) (broadcast_row line) (cond (is_receive n line) (receive_row line) None)
  unfolding row_in
  row-untested = go (broadcast_row line) (receive_row line) (leb (length line) 120) refl (is_broadcast n line) refl (is_receive n line) refl
    where
      long : leb (length line) 120 ≡ false → Line 63 line → ⊥
      long h l = omega (arith, leb-false (length line) 120 h, l.short)

      go : (x y : Option StepRow) (short : Bool) → leb (length line) 120 ≡ short → (a : Bool) → is_broadcast n line ≡ a → (b : Bool) → is_receive n line ≡ b
          → cond short (cond a x (cond b y None)) None ≡ cond a x (cond b y None)
      go x y true h a p b q = refl
      go x y false h true p b q = absurd (long h (broadcast-line n line p))
      go x y false h false p true q = absurd (long h (receive-line n line q))
      go x y false h false p false q = refl

  -- ---- the act

  row-unread : (is_broadcast n line ≡ true → ⊥) → (is_receive n line ≡ true → ⊥) → None ≡ row_in n line
  row-unread a b = go (is_broadcast n line) a (is_receive n line) b (broadcast_row line) (receive_row line) ∙ sym row-untested
    where
      go : (a : Bool) → (a ≡ true → ⊥) → (b : Bool) → (b ≡ true → ⊥) → (x y : Option StepRow) → None ≡ cond a x (cond b y None)
      go true a b g x y = absurd (a refl)
      go false a true g x y = absurd (g refl)
      go false a false g x y = refl

  -- with neither act the row is unread, and so it is without a node of the system;
  pub row-no-act : (same (act line) (ascii "A") ≡ true → ⊥) → (same (act line) (ascii "B") ≡ true → ⊥) → None ≡ row_in n line
  unfolding is_broadcast is_receive
  row-no-act a b =
      row-unread (λ e. a ((and-eq-true_iff (same (act line) (ascii "A")) (broadcast_fields n line)).0 e).0)
      (λ e. b ((and-eq-true_iff (same (act line) (ascii "B")) (receive_fields n line)).0 e).0)

  pub row-no-node : (in_system n line ≡ true → ⊥) → None ≡ row_in n line
  unfolding is_broadcast is_receive
  row-no-node not =
      row-unread (λ e. not (broadcast-fields n line ((and-eq-true_iff (same (act line) (ascii "A")) (broadcast_fields n line)).0 e).1).at-node)
      (λ e. not (receive-fields n line ((and-eq-true_iff (same (act line) (ascii "B")) (receive_fields n line)).0 e).1).at-node)

  -- with act A it is what the fields of a broadcast give, and with act B those of a bundle
  pub row-broadcast : act line ≡ ascii "A" → row_in n line ≡ cond (broadcast_fields n line) (broadcast_row line) None
  unfolding is_broadcast is_receive ascii same
  row-broadcast letter = row-untested ∙ rw letter

  pub row-receive : act line ≡ ascii "B" → row_in n line ≡ cond (receive_fields n line) (receive_row line) None
  unfolding is_broadcast is_receive ascii same
  row-receive letter = row-untested ∙ rw letter

-- ---- the act by its bytes

-- a line of fewer than two bytes has no node
pub short-no-node : (n : ℕ) (line : List ℕ) → length line < 2 → in_system n line ≡ true → ⊥
unfolding after_fields rest_after_field first_field before
short-no-node n line h at =
    let none : drop (suc (before space line)) line ≡ [] = drop_of_length-le line {i = suc (before space line)} (omega arith) in
    true≢false (sym (node-field n line at).plain ∙ ap (λ (xs : List ℕ). plain_up_to 255 (first_field xs)) none ∙ empty-plain 255)

before-one : (line : List ℕ) → 2 ≤ length line → (get_or line 0 0 ≡ space → ⊥) → get_or line 1 0 ≡ space → before space line ≡ 1
unfolding before
before-one [] long other here = absurd (omega arith)
before-one (x ∷ []) long other here = absurd (omega arith)
before-one (x ∷ (y ∷ xs)) long other here = rw (ne_eqb x space other, eq-eqb y space here)

one_byte : {c : ℕ} (line : List ℕ) → 2 ≤ length line → get_or line 0 0 ≡ c → take 1 line ≡ c ∷ []
one_byte [] long e = absurd (omega arith)
one_byte (x ∷ xs) long e = ap (λ (y : ℕ). y ∷ []) e

module _ (c : ℕ) (line : List ℕ) (long : 2 ≤ length line) where
  -- where the act is a letter, the letter is the first byte and a space the second,
  pub letter-there : same (act line) (c ∷ []) ≡ true → (get_or line 0 0 ≡ c) × (get_or line 1 0 ≡ space)
  unfolding act after_fields first_field
  letter-there e =
      let letter : take (before space line) line ≡ c ∷ [] = same-says (take (before space line) line) (c ∷ []) e in
      let one : before space line ≡ 1 = sym (first-length line) ∙ ap length letter in (
        sym (get_or-take (before space line) line 0 0 (omega arith)) ∙ ap (λ (xs : List ℕ). get_or xs 0 0) letter,
        ap (λ (k : ℕ). get_or line k 0) (sym one) ∙ before_here space line (omega arith),
      )

  -- and where they are these, the act is the letter, and the node's field starts at index 2
  pub letter-read : (c ≡ space → ⊥) → get_or line 0 0 ≡ c → get_or line 1 0 ≡ space → (act line ≡ c ∷ []) × (after_fields 1 line ≡ drop 2 line)
  unfolding act after_fields first_field rest_after_field
  letter-read other first second =
      let one = before-one line long (λ q. other (sym first ∙ q)) second in (
        ap (λ (k : ℕ). take k line) one ∙ one_byte line long first,
        ap (λ (k : ℕ). drop (suc k) line) one,
      )

-- so a line that starts with neither letter and a space is unread
pub row-no-letter : (n : ℕ) (line : List ℕ) → 2 ≤ length line → (get_or line 0 0 ≡ 65 → get_or line 1 0 ≡ space → ⊥)
    → (get_or line 0 0 ≡ 66 → get_or line 1 0 ≡ space → ⊥) → None ≡ row_in n line
unfolding ascii
row-no-letter n line long a b =
    row-no-act n line (λ e. let (first, second) = letter-there 65 line long e in a first second)
    (λ e. let (first, second) = letter-there 66 line long e in b first second)
