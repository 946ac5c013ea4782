-- Writing a text over a buffer: what then stands before it, in its place and after it, and that texts written one after the
-- other are one. From the definitions of specs/Text.antt, for any bytes.
-- Assumes nothing.
use mathlib.Core.Path.{◌≡◌, refl, sym, ap, ap₂, ◌∙◌}
use mathlib.Core.Bool.{Bool, true, false, cond}
use mathlib.Core.List.{List, [], ◌++◌, append_assoc}
use Prim.Native.Nat.{ℕ, ◌+◌, ◌-◌, ◌≤◌, ◌<◌}
use native.Mathlib.Nat.{add-zero}
use native.Mathlib.Omega.{arith}
use lib.ListN.{length, take, drop, length-append, length-drop, take-append-drop}
use lib.Seq.{length-take-le, take-append_seam, take_at, drop_at, drop-append-add, drop-drop}
use borrow.Rule.Slice.PartMut.{put_mid}
use borrow.Author.Tests.{le-leb, lt-leb, leb-true, leb-false}
use Rattle.text.specs.Text.{has_room, written, end}

-- where there is no room for the whole of it, nothing is written,
pub written-not : (at : ℕ) (text out : List ℕ) → length out < at + length text → written at text out ≡ out
unfolding written has_room
written-not at text out h = rw (lt-leb (at + length text) (length out) h)

pub end-not : (at : ℕ) (text out : List ℕ) → length out < at + length text → end at text out ≡ at
unfolding end has_room
end-not at text out h = rw (lt-leb (at + length text) (length out) h)

module _ (at : ℕ) (text out : List ℕ) (room : at + length text ≤ length out) where
  -- and where there is, the text stands in its place, and the rest is as it was
  pub written-with-room : written at text out ≡ take at out ++ (text ++ drop (at + length text) out)
  unfolding written has_room
  written-with-room = rw (le-leb (at + length text) (length out) room)

  pub end-with-room : end at text out ≡ at + length text
  unfolding end has_room
  end-with-room = rw (le-leb (at + length text) (length out) room)

  -- before it all is as it was,
  pub written-before : take at (written at text out) ≡ take at out
  written-before = ap (take at) written-with-room ∙ take_at (take at out) _ at (length-take-le at out (omega arith))

  -- from its place on it stands before what stood after it,
  written_from : drop at (written at text out) ≡ text ++ drop (at + length text) out
  written_from = ap (drop at) written-with-room ∙ drop_at (take at out) _ at (length-take-le at out (omega arith))

  -- so it is read back,
  pub written-part : take (length text) (drop at (written at text out)) ≡ text
  written-part = ap (take (length text)) written_from ∙ take-append_seam text (drop (at + length text) out)

  length_front : length (take at out ++ text) ≡ at + length text
  length_front = length-append (take at out) text ∙ ap (λ (k : ℕ). k + length text) (length-take-le at out (omega arith))

  written-seam : written at text out ≡ (take at out ++ text) ++ drop (at + length text) out
  written-seam = written-with-room ∙ sym (append_assoc (take at out) text (drop (at + length text) out))

  -- up to its end it follows what stood before it,
  pub written-prefix : take (at + length text) (written at text out) ≡ take at out ++ text
  written-prefix = ap (take (at + length text)) written-seam ∙ take_at (take at out ++ text) _ (at + length text) length_front

  -- and after it all is as it was
  pub written_after : (n : ℕ) → drop (at + length text + n) (written at text out) ≡ drop (at + length text + n) out
  written_after n =
      ap₂ (λ (k : ℕ) (r : List ℕ). drop (k + n) r) (sym length_front) written-seam
      ∙ drop-append-add (take at out ++ text) (drop (at + length text) out) n
      ∙ drop-drop n (at + length text) out

  length-with-room : length (written at text out) ≡ length out
  length-with-room = ap length written-seam ∙ simp (length-append (take at out ++ text), length_front, length-drop) (omega arith)

-- the same, where the text's length is known by an equation, and the text is what a part of the buffer holds then
module _ (at k : ℕ) (text out : List ℕ) (long : k ≡ length text) (room : at + k ≤ length out) where
  pub written_over : put_mid at (at + k - at) out text ≡ written at text out
  written_over =
      let size : at + k - at ≡ length text = omega arith in
      rw (size, drop-drop (length text) at out) (sym (written-with-room at text out (omega arith)))

  pub end_of : end at text out ≡ at + k
  end_of = end-with-room at text out (omega arith) ∙ ap (λ (n : ℕ). at + n) (sym long)

-- the buffer keeps its length
pub length-written : (at : ℕ) (text out : List ℕ) → length (written at text out) ≡ length out
unfolding has_room
length-written at text out = go (has_room at text out) refl
  where
    go : (b : Bool) → has_room at text out ≡ b → length (written at text out) ≡ length out
    go true e = length-with-room at text out (leb-true _ _ e)
    go false e = ap length (written-not at text out (leb-false _ _ e))

-- a choice between two that are the same
either : {A : Type 0} (b : Bool) (x y : A) → x ≡ y → cond b x y ≡ y
either true x y e = e
either false x y e = refl

-- an empty text changes nothing
pub written-empty : (at : ℕ) (out : List ℕ) → written at [] out ≡ out
unfolding written
written-empty at out =
    either (has_room at [] out) _ out (ap (λ (k : ℕ). take at out ++ drop k out) (add-zero at) ∙ take-append-drop at out)

pub end_empty : (at : ℕ) (out : List ℕ) → end at [] out ≡ at
unfolding end
end_empty at out = either (has_room at [] out) _ at (add-zero at)

module _ (at : ℕ) (xs ys out : List ℕ) (room : at + length (xs ++ ys) ≤ length out) where
  both : length (xs ++ ys) ≡ length xs + length ys
  both = length-append xs ys

  written_both : take at out ++ (xs ++ (ys ++ drop (at + length xs + length ys) out)) ≡ written at (xs ++ ys) out
  written_both =
      let last : at + length xs + length ys ≡ at + length (xs ++ ys) = omega (arith, both) in
      ap (λ (r : List ℕ). take at out ++ r) (sym (append_assoc xs ys (drop (at + length xs + length ys) out)))
      ∙ ap (λ (k : ℕ). take at out ++ ((xs ++ ys) ++ drop k out)) last
      ∙ sym (written-with-room at (xs ++ ys) out room)

  -- two texts, one after the other, are one
  pub written_then : written (at + length xs) ys (written at xs out) ≡ written at (xs ++ ys) out
  written_then =
      let first : at + length xs ≤ length out = omega (arith, both) in
      let then : at + length xs + length ys ≤ length (written at xs out) = omega (arith, both, length-written at xs out) in
      written-with-room (at + length xs) ys (written at xs out) then
      ∙ ap₂ (λ (p q : List ℕ). p ++ (ys ++ q)) (written-prefix at xs out first) (written_after at xs out first (length ys))
      ∙ append_assoc (take at out) xs (ys ++ drop (at + length xs + length ys) out)
      ∙ written_both
