-- That the test `same` is the truth of equality of lists, and what it says of lists put together and of the bytes of numbers.
-- Assumes nothing.
use mathlib.Core.Path.{◌≡◌, refl, sym, ap, ap₂, ◌∙◌, subst}
use mathlib.Core.Bool.{Bool, true, false, ◌&&◌, and_assoc, and-eq-true_iff, true≢false}
use mathlib.Core.List.{List, [], ◌∷◌, ◌++◌}
use Prim.Native.Nat.{ℕ, zero, suc, ◌/◌, ◌%◌, ◌^◌, ◌<◌}
use native.Mathlib.Nat.{zero-div, zero-mod, div-add-mod', mod-lt}
use native.Mathlib.Omega.{arith}
use lib.Dec.{eqb}
use lib.ListN.{length, replicate, length-replicate}
use borrow.Author.Tests.{eqb-true, eq-eqb}
use Rattle.octets.specs.Octets.{same, blank, number, bytes_of}
use Rattle.octets.proofs.Numbers.{base-pos, number-bytes_of, length-bytes_of, bytes_of-low}

-- lists that pass the test are equal,
pub same-says : (xs ys : List ℕ) → same xs ys ≡ true → xs ≡ ys
unfolding same
same-says [] [] e = refl
same-says [] (y ∷ ys) e = absurd (true≢false (sym e))
same-says (x ∷ xs) [] e = absurd (true≢false (sym e))
same-says (x ∷ xs) (y ∷ ys) e =
    let (first, rest) = (and-eq-true_iff (eqb x y) (same xs ys)).0 e in
    ap₂ ◌∷◌ (eqb-true x y first) (same-says xs ys rest)

-- and a list passes it with itself
pub same_self : (xs : List ℕ) → same xs xs ≡ true
unfolding same
same_self [] = refl
same_self (x ∷ xs) = rw (eq-eqb x x refl, same_self xs)

-- lists that fail it are not equal
pub same_not : (xs ys : List ℕ) → same xs ys ≡ false → xs ≡ ys → ⊥
same_not xs ys e p = true≢false (sym (same_self ys) ∙ subst (λ (zs : List ℕ). same zs ys ≡ false) p e)

-- so the order of the two does not matter
pub same-flip : (xs ys : List ℕ) → same xs ys ≡ same ys xs
same-flip xs ys = go (same xs ys) refl (same ys xs) refl
  where
    go : (a : Bool) → same xs ys ≡ a → (b : Bool) → same ys xs ≡ b → same xs ys ≡ same ys xs
    go true e b f = rw (same-says xs ys e)
    go false e true f = rw (same-says ys xs f)
    go false e false f = e ∙ sym f

-- a blank list has zeros alone, and zeros are blank
pub blank-says : (xs : List ℕ) → blank xs ≡ true → xs ≡ replicate (length xs) 0
blank-says xs e = same-says xs (replicate (length xs) 0) e

pub blank-zeros : (k : ℕ) → blank (replicate k 0) ≡ true
blank-zeros k = rw (length-replicate {A = ℕ} k 0) (same_self (replicate k 0))

-- lists put together are the same where their parts are
pub same-append : (xs ys us vs : List ℕ) → length xs ≡ length ys → same (xs ++ us) (ys ++ vs) ≡ (same xs ys && same us vs)
unfolding same
same-append [] [] us vs l = refl
same-append [] (y ∷ ys) us vs l = absurd (omega arith)
same-append (x ∷ xs) [] us vs l = absurd (omega arith)
same-append (x ∷ xs) (y ∷ ys) us vs l = go (eqb x y) (same-append xs ys us vs (omega arith))
  where
    go : (b : Bool) → same (xs ++ us) (ys ++ vs) ≡ (same xs ys && same us vs) → (b && same (xs ++ us) (ys ++ vs)) ≡ ((b && same xs ys) && same us vs)
    go true below = below
    go false below = refl

-- numbers that fit are the same where their bytes are
pub same-bytes_of : (k a b : ℕ) → a < 256 ^ k → b < 256 ^ k → same (bytes_of k a) (bytes_of k b) ≡ eqb a b
same-bytes_of k a b ha hb = go (same (bytes_of k a) (bytes_of k b)) refl (eqb a b) refl
  where
    go : (s : Bool) → same (bytes_of k a) (bytes_of k b) ≡ s → (e : Bool) → eqb a b ≡ e → s ≡ e
    go true h true g = refl
    go true h false g =
        sym (eq-eqb a b (sym (number-bytes_of k a ha) ∙ ap number (same-says (bytes_of k a) (bytes_of k b) h) ∙ number-bytes_of k b hb)) ∙ g
    go false h true g = sym h ∙ ap (λ (x : ℕ). same (bytes_of k a) (bytes_of k x)) (sym (eqb-true a b g)) ∙ same_self (bytes_of k a)
    go false h false g = refl

-- lists put together are blank where their parts are
pub blank-append : (xs ys : List ℕ) → blank (xs ++ ys) ≡ (blank xs && blank ys)
unfolding same
blank-append [] ys = refl
blank-append (x ∷ xs) ys = ap (λ (b : Bool). eqb x 0 && b) (blank-append xs ys) ∙ sym (and_assoc (eqb x 0) (blank xs) (blank ys))

zero-bytes : (k : ℕ) → replicate k 0 ≡ bytes_of k 0
unfolding bytes_of
zero-bytes zero = refl
zero-bytes (suc k) = rw (zero-div, zero-mod, zero-bytes k)

-- and a number that fits is zero where its bytes are blank
pub blank-bytes_of : (k x : ℕ) → x < 256 ^ k → blank (bytes_of k x) ≡ eqb x 0
blank-bytes_of k x h = rw (length-bytes_of k x, zero-bytes k) (same-bytes_of k x 0 h (base-pos k))

-- so the k low bytes of any number are blank where what they write is zero
pub blank-low : (k x : ℕ) → blank (bytes_of k x) ≡ eqb (x % 256 ^ k) 0
blank-low k x =
    ap blank (ap (bytes_of k) (sym (div-add-mod' x (256 ^ k))) ∙ bytes_of-low k (x / 256 ^ k) (x % 256 ^ k))
    ∙ blank-bytes_of k (x % 256 ^ k) (mod-lt x {m = 256 ^ k} (base-pos k))
