-- Line after line of a piece of the input: what is known and printed after so many bytes of it, and after one line more. From the laws of pieces and of
-- the first line.
-- Assumes nothing.
use mathlib.Core.Path.{◌≡◌, refl, sym, ap, ap₂, ◌∙◌}
use mathlib.Core.List.{List, ◌++◌}
use Prim.Native.Nat.{ℕ, ◌+◌, ◌-◌, ◌*◌, ◌≤◌, ◌<◌}
use native.Mathlib.Nat.{zero-add}
use native.Mathlib.Omega.{arith}
use lib.ListN.{length, take, drop, length-append, length-drop, length-take}
use lib.Seq.{take_all, take-add}
use Rattle.text.specs.Text.{written}
use Rattle.text.proofs.WriteLaws.{length-written, written-empty, written_then}
use borrow.Author.Tests.{le-leb}
use Rattle.step.specs.Step.{row_space, roomy}
use Rattle.lines.specs.declared.Run.{Run}
use Rattle.lines.specs.Bytes.{Progress, after_bytes, bytes_text, progress, through, used_bytes}
use Rattle.lines.proofs.Pieces.{pieces, bytes-length}

-- with room for any row, a byte at least is used of a piece, and no more than there are
some-used : (at : ℕ) (chunk out : List ℕ) → 0 < length chunk → at + row_space ≤ length out → (1 ≤ used_bytes at chunk out) × (used_bytes at chunk out ≤ length chunk)
unfolding used_bytes roomy through
some-used at chunk out h room = rw (le-leb (at + row_space) (length out) room) (omega arith, omega arith)

-- what a part from an index on is
pub rest_part : (at : ℕ) (chunk : List ℕ) → take (length chunk - at) (drop at chunk) ≡ drop at chunk
rest_part at chunk = take_all (length chunk - at) (drop at chunk) (omega (arith, length-drop at chunk))

module _ (p : Progress) (chunk out₀ : List ℕ) where
  -- after `at` bytes
  pub record SoFar (at : ℕ) (now : Run) (buffer records : List ℕ) (len : ℕ) (out : List ℕ) : Type 0 where
    pub known-now : progress now buffer records ≡ after_bytes p (take at chunk)
    pub printed-now : len ≡ length (bytes_text p (take at chunk))
    pub out-now : out ≡ written 0 (bytes_text p (take at chunk)) out₀

  -- at the start,
  pub at-start : (now : Run) (buffer records : List ℕ) → progress now buffer records ≡ p → SoFar 0 now buffer records 0 out₀
  unfolding after_bytes bytes_text
  at-start now buffer records e = record { known-now = e; printed-now = refl; out-now = sym (written-empty 0 out₀) }

  module _ (room : row_space * length chunk ≤ length out₀) (at : ℕ) (now : Run) (buffer records : List ℕ) (len : ℕ) (out : List ℕ)
      (so_far : SoFar at now buffer records len out) (h : at < length chunk) where
    -- so far there is room for a row more for each byte that is left,
    pub room-now : len + row_space ≤ row_space * length chunk
    room-now =
        let few : length (take at chunk) ≤ at = omega (arith, length-take at chunk) in
        omega (arith, so_far.printed-now, bytes-length p (take at chunk))

    long-now : length out ≡ length out₀
    long-now = ap length so_far.out-now ∙ length-written 0 (bytes_text p (take at chunk)) out₀

    -- and after one line more
    module _ (next : Run) (after left : List ℕ) (used len' : ℕ) (over : List ℕ) (piece : List ℕ) (is : piece ≡ drop at chunk)
        (count : used ≡ used_bytes len piece out) where
      long : length piece ≡ length chunk - at
      long = ap length is ∙ length-drop at chunk

      -- a byte at least is used, and no more than there are
      used-some : (1 ≤ used) × (at + used ≤ length chunk)
      used-some =
          let (some, within) = some-used len piece out (omega (arith, long)) (omega (arith, room-now, long-now)) in
          (omega arith, omega (arith, long))

      line : List ℕ
      line = take used piece

      joined : take (at + used) chunk ≡ take at chunk ++ line
      unfolding line
      joined = take-add at used chunk ∙ ap (λ (xs : List ℕ). take at chunk ++ take used xs) (sym is)

      pub one_more : progress next after left ≡ after_bytes (progress now buffer records) (take used piece)
          → len' ≡ len + length (bytes_text (progress now buffer records) (take used piece))
          → over ≡ written len (bytes_text (progress now buffer records) (take used piece)) out
          → (1 ≤ used) × (at + used ≤ length chunk) × SoFar (at + used) next after left len' over
      unfolding line
      one_more known printed wrote =
          let (e, t) = pieces p (take at chunk) line in
          let text : bytes_text p (take (at + used) chunk) ≡ bytes_text p (take at chunk) ++ bytes_text (progress now buffer records) line =
          ap (bytes_text p) joined ∙ t ∙ ap (λ (q : Progress). bytes_text p (take at chunk) ++ bytes_text q line) (sym so_far.known-now) in
          let a : List ℕ = bytes_text p (take at chunk) in
          let b : List ℕ = bytes_text (progress now buffer records) line in
          let fits : 0 + length (a ++ b) ≤ length out₀ =
          omega (arith, ap length text, bytes-length p (take (at + used) chunk), length-take (at + used) chunk) in (
            used-some.0,
            used-some.1,
            record {
              known-now = known ∙ ap (λ (q : Progress). after_bytes q line) so_far.known-now ∙ sym (ap (after_bytes p) joined ∙ e);
              printed-now = printed ∙ ap (λ (k : ℕ). k + length b) so_far.printed-now ∙ sym (ap length text ∙ length-append a b);
              out-now =
                  wrote
                  ∙ ap₂ (λ (k : ℕ) (r : List ℕ). written k b r) (so_far.printed-now ∙ sym (zero-add (length a))) so_far.out-now
                  ∙ written_then 0 a b out₀ fits
                  ∙ ap (λ (text : List ℕ). written 0 text out₀) (sym text);
            },
          )

  -- until all of it is used
  pub all-used : (now : Run) (buffer records : List ℕ) (at len : ℕ) (out : List ℕ) → length chunk ≤ at → SoFar at now buffer records len out
      → (progress now buffer records ≡ after_bytes p chunk) × ((len ≡ length (bytes_text p chunk)) × (out ≡ written 0 (bytes_text p chunk) out₀))
  all-used now buffer records at len out h so_far =
      let all : take at chunk ≡ chunk = take_all at chunk h in (
        so_far.known-now ∙ ap (after_bytes p) all,
        (so_far.printed-now ∙ ap (λ (xs : List ℕ). length (bytes_text p xs)) all, so_far.out-now ∙ ap (λ (xs : List ℕ). written 0 (bytes_text p xs) out₀) all),
      )
