-- Writing words: a word is put over a part of a slice, and words put one after the other fill a slice from its start.
-- Assumes nothing.
use mathlib.Core.Path.{◌≡◌, refl, sym, ap, ◌∙◌}
use mathlib.Core.List.{List, [], ◌++◌, append_assoc, append-nil}
use Prim.Native.Nat.{ℕ, ◌+◌, ◌-◌, ◌≤◌, ◌<◌}
use native.Mathlib.Omega.{arith}
use borrow.Author.Tests.{le-leb, lt-leb}
use lib.ListN.{length, take, drop, length-append, length-drop, drop_of_length-le}
use lib.Seq.{drop-drop, take_at, drop-append-add}
use Rattle.octets.specs.Octets.{bytes_of, placed}
use Rattle.octets.proofs.Numbers.{length-bytes_of}

module _ (at x : ℕ) (xs : List ℕ) where
  -- a word goes where there is room for it,
  pub placed-room : at + 8 ≤ length xs → placed at x xs ≡ take at xs ++ (bytes_of 8 x ++ drop (at + 8) xs)
  unfolding placed
  placed-room h = rw (le-leb (at + 8) (length xs) h)

  -- by storing it over the part there,
  pub placed-part : (ys : List ℕ) → at + 8 ≤ length xs → ys ≡ bytes_of 8 x
      → take at xs ++ (ys ++ drop (at + 8 - at) (drop at xs)) ≡ placed at x xs
  placed-part ys h e =
      let k : at + 8 - at ≡ 8 = omega arith in
      rw (e, k, drop-drop 8 at xs) (sym (placed-room h))

  -- and nowhere else
  pub placed-none : length xs < at + 8 → placed at x xs ≡ xs
  unfolding placed
  placed-none h = rw (lt-leb (at + 8) (length xs) h)

-- a slice is written up to an index: `done` stands before it, and from there on what was there at first
pub record Written (done : List ℕ) (at : ℕ) (first now : List ℕ) : Type 0 where
  pub up_to : length done ≡ at
  pub joined : now ≡ done ++ drop at first

pub written_none : (xs : List ℕ) → Written [] 0 xs xs
written_none xs = record { up_to = refl; joined = refl }

-- a word put after what is written is written as well
pub written-word : {done xs ys zs : List ℕ} {at : ℕ} (x : ℕ) → Written done at xs ys → at + 8 ≤ length xs → zs ≡ placed at x ys
    → Written (done ++ bytes_of 8 x) (at + 8) xs zs
written-word {done} {xs} {ys} {zs} {at} x w room e =
    let l = w.up_to in
    let rest : drop (at + 8) (done ++ drop at xs) ≡ drop (at + 8) xs =
    rw (← l) (drop-append-add done (drop (length done) xs) 8 ∙ drop-drop 8 (length done) xs) in
    record {
      up_to = length-append done (bytes_of 8 x) ∙ rw (l, length-bytes_of 8 x);
      joined =
          e
          ∙ placed-room at x ys (rw w.joined (simp (length-append, length-drop) (omega arith)))
          ∙ rw (w.joined, take_at done (drop at xs) at l, rest, append_assoc done (bytes_of 8 x) (drop (at + 8) xs));
    }

-- where all is written nothing is left of what was there
pub written_all : {done xs ys : List ℕ} {at : ℕ} → Written done at xs ys → length xs ≤ at → ys ≡ done
written_all {done} {xs} {ys} {at} w all = w.joined ∙ ap (λ (r : List ℕ). done ++ r) (drop_of_length-le xs {i = at} all) ∙ append-nil done
