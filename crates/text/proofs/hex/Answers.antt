-- `hex` meets its contract: the bytes so far are hexadecimal digits. The table's rule is shown at all of its entries by computing them.
-- Assumes nothing.
use mathlib.Core.Path.{◌≡◌, refl, sym, ap, ap₂, ◌∙◌}
use mathlib.Core.Bool.{Bool, true, false, cond, and-eq-true_iff, true≢false}
use mathlib.Core.List.{List, [], ◌∷◌}
use Prim.Native.Nat.{ℕ, zero, suc, ◌+◌, ◌*◌, ◌^◌, ◌≤◌, ◌<◌}
use native.Mathlib.Nat.{zero-add, add-zero, add-suc, suc-add, pow-le-pow_right}
use native.Mathlib.Omega.{arith}
use lib.Dec.{eqb, lit<}
use lib.ListN.{length, get_or, take}
use lib.Seq.{length-take-le, take_all}
use borrow.Author.Tests.{eq-eqb, eqb-true}
use Rattle.std.specs.Prelude.{Some, None}
use Rattle.text.specs.Text.{only, digit, hex_digit, digit_value, hex, word_in}
use Rattle.text.specs.Text as spec
use Rattle.text.proofs.Fields.{only-says, only-more}
use Rattle.text.proofs.DigitValues.{hex-digit-lt, hex-fits, value-more}
use Rattle.text.proofs.hex.Goals as goal
use Rattle.text.proofs.hex.Goals.{Else-digit-ge16}

-- what the table has for a byte, and n entries of it from byte i on
entry : ℕ → ℕ
entry b = cond (hex_digit b) (digit_value b) 16

entries : ℕ → ℕ → List ℕ
entries i zero = []
entries i (suc n) = entry i ∷ entries (suc i) n

entries_at : (n i k : ℕ) → k < n → get_or (entries i n) k 0 ≡ entry (i + k)
unfolding entries
entries_at zero i k h = absurd (omega arith)
entries_at (suc n) i zero h = ap entry (sym (add-zero i))
entries_at (suc n) i (suc k) h = entries_at n (suc i) k (omega arith) ∙ ap entry (suc-add i k ∙ sym (add-suc i k))

looked_up : (b k : ℕ) → k ≡ b → b < 256 → get_or (entries 0 256) k 0 ≡ entry b
looked_up b k same h = rw same (entries_at 256 0 b h ∙ ap entry (zero-add b))

-- an entry of 16 or more is that of no digit, and one below is a digit's value
entry-none : (b : ℕ) → 16 ≤ entry b → hex_digit b ≡ false
unfolding entry
entry-none b h = go (hex_digit b) refl h
  where
    go : (t : Bool) → hex_digit b ≡ t → 16 ≤ cond t (digit_value b) 16 → t ≡ false
    go true e h = absurd (omega (arith, hex-digit-lt b e))
    go false e h = refl

entry-digit : (b : ℕ) → entry b < 16 → (hex_digit b ≡ true) × (entry b ≡ digit_value b)
unfolding entry
entry-digit b h = go (hex_digit b) refl h
  where
    go : (t : Bool) → hex_digit b ≡ t → cond t (digit_value b) 16 < 16 → (t ≡ true) × (cond t (digit_value b) 16 ≡ digit_value b)
    go true e h = (refl, refl)
    go false e h = absurd (omega arith)

module _ (xs : List ℕ) where
  -- a text is refused if it has another length or a byte that is no digit
  refused : (hex 16 xs ≡ true → ⊥) → None ≡ word_in xs
  unfolding word_in
  refused h = go (hex 16 xs) refl
    where
      go : (t : Bool) → hex 16 xs ≡ t → None ≡ cond t (Some (spec.value 16 0 xs)) None
      go true e = absurd (h e)
      go false e = refl

  no_length : (length xs ≡ 16 → ⊥) → None ≡ word_in xs
  unfolding hex
  no_length other = refused (λ (e : hex 16 xs ≡ true). other (eqb-true (length xs) 16 ((and-eq-true_iff (eqb (length xs) 16) (only hex_digit xs)).0 e).0))

  no_digit : (i : ℕ) → i < length xs → hex_digit (get_or xs i 0) ≡ false → None ≡ word_in xs
  unfolding hex
  no_digit i h other =
      refused
      (λ (e : hex 16 xs ≡ true). true≢false (sym (only-says hex_digit xs ((and-eq-true_iff (eqb (length xs) 16) (only hex_digit xs)).0 e).1 i h) ∙ other))

  -- any other is taken
  taken : length xs ≡ 16 → only hex_digit xs ≡ true → Some (spec.value 16 0 xs) ≡ word_in xs
  unfolding word_in hex
  taken l e = rw (eq-eqb (length xs) 16 l, e)

  -- fewer than sixteen digits leave room for one more
  room : (i : ℕ) → i < 16 → i ≤ length xs → only hex_digit (take i xs) ≡ true → spec.value 16 0 (take i xs) < 16 ^ 15
  room i h l e =
      let few : length (take i xs) ≤ 15 = omega (arith, length-take-le i xs l) in
      let power : 16 ^ length (take i xs) ≤ 16 ^ 15 = pow-le-pow_right (lit< tt) few in
      omega (arith, hex-fits (take i xs) e)

pub returns-then-text-ne16 : goal.returns-then-text-ne16
returns-then-text-ne16 c = no_length _ c.if-text-ne16.true

pub loop-byte-init : goal.loop-byte-init
unfolding only spec.value
loop-byte-init c = (refl, refl)

pub returns-then-digit-ge16 : goal.returns-then-digit-ge16
unfolding entries entry hex_digit digit digit_value
returns-then-digit-ge16 c =
    let i = c.loop-byte.byte-index in
    no_digit _ i c.loop-byte-test.true (entry-none (get_or c.args.text.now i 0) (rw (looked_up _ _ c.from.ensures (c.type_inv.text i).fits) at c.if-digit-ge16.true))

-- where the entry is below 16 the byte is a digit
digit-read : (c : Else-digit-ge16) → (hex_digit (get_or c.args.text.now c.loop-byte.byte-index 0) ≡ true) × (get_or (entries 0 256) c.from.result 0 ≡ digit_value (get_or c.args.text.now c.loop-byte.byte-index 0))
unfolding entries entry hex_digit digit digit_value
digit-read c =
    let entry-is = looked_up _ _ c.from.ensures (c.type_inv.text c.loop-byte.byte-index).fits in
    let (is, same) = entry-digit (get_or c.args.text.now c.loop-byte.byte-index 0) (rw entry-is at c.if-digit-ge16.false) in
    (is, entry-is ∙ same)

-- and the number so far leaves room for it
small : (c : Else-digit-ge16) → c.loop-byte.value < 16 ^ 15
small c =
    let (digits, same) = c.loop-byte.invariant in
    rw same (room _ c.loop-byte.byte-index (omega arith) (omega arith) digits)

pub overflow_mul-value : goal.overflow_mul-value
overflow_mul-value c = omega (arith, small c)

pub overflow_add-value : goal.overflow_add-value
overflow_add-value c = omega (arith, small (goal.at.overflow_add-value c).Else-digit-ge16)

pub loop-byte-preserved : goal.loop-byte-preserved
unfolding entries entry hex_digit digit digit_value
loop-byte-preserved c =
    let xs = c.args.text.now in
    let i = c.loop-byte.byte-index in
    let (digits, same) = c.loop-byte.invariant in
    let h : i < length xs = omega arith in
    let (is, equal) = digit-read (goal.at.loop-byte-preserved c).Else-digit-ge16 in
    (only-more hex_digit xs i h is digits, ap₂ (λ (v d : ℕ). v * 16 + d) same (c.from-in-loop-byte.ensures ∙ equal) ∙ sym (value-more 16 xs i h))

pub returns : goal.returns
returns c =
    let xs = c.args.text.now in
    let (digits, same) = c.loop-byte.invariant in
    let whole : take c.loop-byte.byte-index xs ≡ xs = take_all c.loop-byte.byte-index xs (omega arith) in
    ap (λ (w : ℕ). Some w) (same ∙ ap (spec.value 16 0) whole) ∙ taken xs c.if-text-ne16.false (rw whole at digits)
