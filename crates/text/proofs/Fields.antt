-- Fields of a text: where the first byte of a kind stands, a text cut at its first space, and texts joined by one.
-- Assumes nothing.
use mathlib.Core.Path.{◌≡◌, refl, sym, ap, ◌∙◌}
use mathlib.Core.Bool.{Bool, true, false, cond, not, ◌&&◌, ◌||◌, and-eq-true_iff, and_assoc, true≢false}
use mathlib.Core.List.{List, [], ◌∷◌, ◌++◌}
use Prim.Native.Nat.{ℕ, zero, suc, ◌+◌, ◌≤◌, ◌<◌, zero-le, suc-le-suc}
use native.Mathlib.Nat.{zero-add, suc-add, add-zero}
use native.Mathlib.Numerals.{add-one}
use native.Mathlib.Omega.{arith}
use lib.Dec.{eqb}
use lib.ListN.{length, get_or, take, drop, drop_of_length-le}
use lib.Seq.{take-suc, drop-cons, take-length, length-take-le, split_at, take_at, drop-append-add}
use borrow.Author.Tests.{eqb-true, eq-eqb, ne_eqb, lt-leb}
use Rattle.text.specs.Text.{before, first_field, rest_after_field, space, only, digit, hex_digit, plain_number, hex, empty}

-- ---- the first byte that is b

-- it stands within the text, or at its end
pub before-le : (b : ℕ) (xs : List ℕ) → before b xs ≤ length xs
unfolding before
before-le b [] = zero-le
before-le b (x ∷ xs) = go (eqb x b) (before-le b xs)
  where
    go : (t : Bool) → before b xs ≤ length xs → cond t 0 (suc (before b xs)) ≤ suc (length xs)
    go true h = zero-le
    go false h = suc-le-suc h

-- within the text it is b
pub before_here : (b : ℕ) (xs : List ℕ) → before b xs < length xs → get_or xs (before b xs) 0 ≡ b
unfolding before
before_here b [] h = absurd (omega arith)
before_here b (x ∷ xs) h = go (eqb x b) refl h (before_here b xs)
  where
    go : (t : Bool) → eqb x b ≡ t → cond t 0 (suc (before b xs)) < suc (length xs) → (before b xs < length xs → get_or xs (before b xs) 0 ≡ b)
        → get_or (x ∷ xs) (cond t 0 (suc (before b xs))) 0 ≡ b
    go true e h below = eqb-true x b e
    go false e h below = below (omega arith)

-- an empty text has none; one that begins with b, and one that begins with another byte
before-empty : (b : ℕ) → before b [] ≡ 0
unfolding before
before-empty b = refl

pub before-met : (b x : ℕ) (xs : List ℕ) → x ≡ b → before b (x ∷ xs) ≡ 0
unfolding before
before-met b x xs e = rw (eq-eqb x b e)

pub before-other : (b x : ℕ) (xs : List ℕ) → (x ≡ b → ⊥) → before b (x ∷ xs) ≡ suc (before b xs)
unfolding before
before-other b x xs e = rw (ne_eqb x b e)

-- after a text that has no b, it is where it was in what follows
pub before-over : (b : ℕ) (ys zs : List ℕ) → before b ys ≡ length ys → before b (ys ++ zs) ≡ length ys + before b zs
unfolding before
before-over b [] zs h = sym (zero-add (before b zs))
before-over b (y ∷ ys) zs h = go (eqb y b) h (before-over b ys zs)
  where
    go : (t : Bool) → cond t 0 (suc (before b ys)) ≡ suc (length ys) → (before b ys ≡ length ys → before b (ys ++ zs) ≡ length ys + before b zs)
        → cond t 0 (suc (before b (ys ++ zs))) ≡ suc (length ys) + before b zs
    go true e below = absurd (omega arith)
    go false e below = ap suc (below (omega arith)) ∙ sym (suc-add (length ys) (before b zs))

-- so a b that is put after such a text is the first,
pub before-append : (b : ℕ) (ys zs : List ℕ) → before b ys ≡ length ys → before b (ys ++ (b ∷ zs)) ≡ length ys
before-append b ys zs h =
    before-over b ys (b ∷ zs) h ∙ ap (λ (k : ℕ). length ys + k) (before-met b b zs refl) ∙ add-zero (length ys)

-- and another byte that is put there is passed over
pub before-join : (b x : ℕ) (ys zs : List ℕ) → before b ys ≡ length ys → (x ≡ b → ⊥) → before b (ys ++ (x ∷ zs)) ≡ length ys + suc (before b zs)
before-join b x ys zs h other =
    before-over b ys (x ∷ zs) h ∙ ap (λ (k : ℕ). length ys + k) (before-other b x zs other)

-- how a search finds it. If it is not among the first i bytes, it is byte i,
module _ (b : ℕ) (xs : List ℕ) (i : ℕ) (so_far : before b xs ≡ i + before b (drop i xs)) where
  pub found_here : i < length xs → get_or xs i 0 ≡ b → before b xs ≡ i
  found_here h e =
      so_far ∙ ap (λ (k : ℕ). i + k) (ap (before b) (drop-cons xs i 0 h) ∙ before-met b (get_or xs i 0) (drop (suc i) xs) e) ∙ add-zero i

  -- or it is not among the first i + 1 either,
  pub not-here : i < length xs → (get_or xs i 0 ≡ b → ⊥) → before b xs ≡ (i + 1) + before b (drop (i + 1) xs)
  not-here h e =
      let more : before b (drop i xs) ≡ suc (before b (drop (i + 1) xs)) = rw (add-one i) (ap (before b) (drop-cons xs i 0 h) ∙ before-other b (get_or xs i 0) (drop (suc i) xs) e) in
      omega arith

  -- or the text ends
  pub not_there : i ≡ length xs → before b xs ≡ i
  not_there e = so_far ∙ ap (λ (k : ℕ). i + k) (ap (before b) (drop_of_length-le xs {i = i} (omega arith)) ∙ before-empty b) ∙ add-zero i

-- what stands before it has no b
pub before-none : (b : ℕ) (xs : List ℕ) → before b (take (before b xs) xs) ≡ before b xs
unfolding before
before-none b [] = refl
before-none b (x ∷ xs) = go (eqb x b) refl (before-none b xs)
  where
    go : (t : Bool) → eqb x b ≡ t → before b (take (before b xs) xs) ≡ before b xs
        → before b (take (cond t 0 (suc (before b xs))) (x ∷ xs)) ≡ cond t 0 (suc (before b xs))
    go true e below = refl
    go false e below = rw e (ap suc below)

-- ---- cutting at the first space

-- the text is its first field, a space and the rest, if it has a space
pub join : (xs : List ℕ) → before space xs < length xs → xs ≡ first_field xs ++ (space ∷ rest_after_field xs)
unfolding first_field rest_after_field
join xs h =
    split_at xs (before space xs) 0 h
    ∙ ap (λ (b : ℕ). take (before space xs) xs ++ (b ∷ drop (suc (before space xs)) xs)) (before_here space xs h)

-- and these are cut apart again where the first has no space
pub cut-first : (ys zs : List ℕ) → before space ys ≡ length ys → first_field (ys ++ (space ∷ zs)) ≡ ys
unfolding first_field
cut-first ys zs h = take_at ys (space ∷ zs) (before space (ys ++ (space ∷ zs))) (sym (before-append space ys zs h))

pub cut-rest : (ys zs : List ℕ) → before space ys ≡ length ys → rest_after_field (ys ++ (space ∷ zs)) ≡ zs
unfolding rest_after_field
cut-rest ys zs h =
    ap (λ (k : ℕ). drop k (ys ++ (space ∷ zs))) (ap suc (before-append space ys zs h) ∙ sym (add-one (length ys)))
    ∙ drop-append-add ys (space ∷ zs) 1

-- with no space the first field is the whole text, and there is no rest
pub first-whole : (xs : List ℕ) → before space xs ≡ length xs → first_field xs ≡ xs
unfolding first_field
first-whole xs h = rw h (take-length xs)

pub rest-none : (xs : List ℕ) → before space xs ≡ length xs → rest_after_field xs ≡ []
unfolding rest_after_field
rest-none xs h = drop_of_length-le xs {i = suc (before space xs)} (omega arith)

-- the first field ends where the first space stands, and has none itself
pub first-length : (xs : List ℕ) → length (first_field xs) ≡ before space xs
unfolding first_field
first-length xs = length-take-le (before space xs) xs (before-le space xs)

pub first-none : (xs : List ℕ) → before space (first_field xs) ≡ length (first_field xs)
unfolding first_field
first-none xs = before-none space xs ∙ sym (first-length xs)

-- ---- texts of bytes that pass a test

-- two texts put together pass where both do
pub only-append : (test : ℕ → Bool) (xs ys : List ℕ) → only test (xs ++ ys) ≡ (only test xs && only test ys)
unfolding only
only-append test [] ys = refl
only-append test (x ∷ xs) ys = ap (λ (t : Bool). test x && t) (only-append test xs ys) ∙ sym (and_assoc (test x) (only test xs) (only test ys))

-- each byte of a text that passes does,
pub only-says : (test : ℕ → Bool) (xs : List ℕ) → only test xs ≡ true → (i : ℕ) → i < length xs → test (get_or xs i 0) ≡ true
unfolding only
only-says test [] e i h = absurd (omega arith)
only-says test (x ∷ xs) e zero h = ((and-eq-true_iff (test x) (only test xs)).0 e).0
only-says test (x ∷ xs) e (suc i) h = only-says test xs ((and-eq-true_iff (test x) (only test xs)).0 e).1 i (omega arith)

-- and so do the first i + 1 bytes where the first i do and byte i does
pub only-more : (test : ℕ → Bool) (xs : List ℕ) (i : ℕ) → i < length xs → test (get_or xs i 0) ≡ true → only test (take i xs) ≡ true → only test (take (i + 1) xs) ≡ true
unfolding only
only-more test xs i h here e =
    rw (add-one i, take-suc xs i 0 h, only-append test (take i xs) (get_or xs i 0 ∷ []), e, here)

-- a byte that does not pass is in no text that does
pub only_none : (test : ℕ → Bool) (b : ℕ) (xs : List ℕ) → test b ≡ false → only test xs ≡ true → before b xs ≡ length xs
unfolding only before
only_none test b [] fails e = refl
only_none test b (x ∷ xs) fails e =
    let (here, there) = (and-eq-true_iff (test x) (only test xs)).0 e in
    rw (ne_eqb x b (λ (same : x ≡ b). true≢false (sym here ∙ ap test same ∙ fails))) (ap suc (only_none test b xs fails there))

-- so no byte below the digits, as the line feed and the space, is in a plain number
below-digit : (b : ℕ) → b < 48 → digit b ≡ false
unfolding digit
below-digit b h = rw (lt-leb 48 b h)

below-hex_digit : (b : ℕ) → b < 48 → hex_digit b ≡ false
unfolding hex_digit
below-hex_digit b h = rw (below-digit b h, lt-leb 97 b (omega arith))

pub plain-only : (xs : List ℕ) → plain_number xs ≡ true → only digit xs ≡ true
unfolding plain_number
plain-only [] e = absurd (true≢false (sym e))
plain-only (x ∷ xs) e = ((and-eq-true_iff (only digit (x ∷ xs)) (not (eqb x 48) || empty xs)).0 e).0

pub plain-none : (b : ℕ) (xs : List ℕ) → b < 48 → plain_number xs ≡ true → before b xs ≡ length xs
plain-none b xs h e = only_none digit b xs (below-digit b h) (plain-only xs e)

-- or in hexadecimal digits
pub hex-none : (b k : ℕ) (xs : List ℕ) → b < 48 → hex k xs ≡ true → before b xs ≡ length xs
unfolding hex
hex-none b k xs h e = only_none hex_digit b xs (below-hex_digit b h) ((and-eq-true_iff (eqb (length xs) k) (only hex_digit xs)).0 e).1
