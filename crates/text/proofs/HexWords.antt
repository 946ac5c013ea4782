-- Hexadecimal digits: how many bytes they are, the word that 16 of them write, and 32 of them as twice 16.
-- Assumes nothing.
use mathlib.Core.Path.{◌≡◌, refl, sym, ap, ◌∙◌}
use mathlib.Core.Bool.{Bool, true, false, cond, ◌&&◌, and-eq-true_iff}
use mathlib.Core.List.{List}
use Prim.Native.Nat.{ℕ, ◌-◌}
use native.Mathlib.Omega.{arith}
use lib.Dec.{eqb}
use lib.ListN.{length, take, drop, length-drop, take-append-drop}
use lib.Seq.{length-take-le}
use borrow.Author.Tests.{eqb-true, eq-eqb}
use Rattle.text.specs.Text.{value, only, hex_digit, hex, word_in}
use Rattle.std.specs.Prelude.{Option, Some, None}
use Rattle.text.proofs.Fields.{only-append}

-- k digits are k bytes
pub hex-length : (k : ℕ) (xs : List ℕ) → hex k xs ≡ true → length xs ≡ k
unfolding hex
hex-length k xs e = eqb-true (length xs) k ((and-eq-true_iff (eqb (length xs) k) (only hex_digit xs)).0 e).0

-- 32 digits are twice 16
pub hex-halves : (xs : List ℕ) → length xs ≡ 32 → hex 32 xs ≡ (hex 16 (take 16 xs) && hex 16 (drop 16 xs))
unfolding hex
hex-halves xs l =
    rw (
      eq-eqb (length xs) 32 l,
      eq-eqb (length (take 16 xs)) 16 (length-take-le 16 xs (omega arith)),
      eq-eqb (length (drop 16 xs)) 16 (length-drop 16 xs ∙ ap (λ (k : ℕ). k - 16) l),
    )
    (ap (only hex_digit) (sym (take-append-drop 16 xs)) ∙ only-append hex_digit (take 16 xs) (drop 16 xs))

pub hex-both : (xs : List ℕ) → length xs ≡ 32 → hex 32 xs ≡ true → (hex 16 (take 16 xs) ≡ true) × (hex 16 (drop 16 xs) ≡ true)
hex-both xs l e = (and-eq-true_iff (hex 16 (take 16 xs)) (hex 16 (drop 16 xs))).0 (sym (hex-halves xs l) ∙ e)

-- what the reader of a word says: the 16 digits write a word,
module _ (xs : List ℕ) {read : Option ℕ} (reader : read ≡ word_in xs) where
  pub word_read : (w : ℕ) → read ≡ Some w → (hex 16 xs ≡ true) × (value 16 0 xs ≡ w)
  unfolding word_in
  word_read w e = go (hex 16 xs) refl (sym reader ∙ e)
    where
      go : (t : Bool) → hex 16 xs ≡ t → cond t (Some (value 16 0 xs)) None ≡ Some w → (hex 16 xs ≡ true) × (value 16 0 xs ≡ w)
      go true f h = (f, (cc))
      go false f h = absurd (let z : ◌≡◌ {A = ℕ} 0 1 = cc in omega arith)

  -- or they are not such digits
  pub word-missing : read ≡ None → hex 16 xs ≡ true → ⊥
  unfolding word_in
  word-missing e digits = let z : ◌≡◌ {A = ℕ} 0 1 = (let both = sym reader ∙ e in cc (ap (λ (t : Bool). cond t (Some (value 16 0 xs)) None) digits)) in omega arith
