-- Texts written one after another over a buffer that has room for them all: they are one text, and where it ends is known. From the laws of
-- writing one text.
-- Assumes nothing.
use mathlib.Core.Path.{◌≡◌, ap, ap₂, subst, ◌∙◌}
use mathlib.Core.List.{List, ◌++◌}
use Prim.Native.Nat.{ℕ, ◌+◌, ◌≤◌}
use native.Mathlib.Omega.{arith}
use lib.ListN.{length, length-append}
use Rattle.text.specs.Text.{written, end}
use Rattle.text.proofs.WriteLaws.{end-with-room, length-written, written_then}

-- a text is written from index `at` on if there is room for it: where it ends, and the buffer then
pub record Puts (at : ℕ) (text out : List ℕ) (stop : ℕ) (after : List ℕ) : Type 0 where
  pub wrote : at + length text ≤ length out → (stop ≡ at + length text) × (after ≡ written at text out)

module _ {at : ℕ} {text out : List ℕ} {stop : ℕ} {after : List ℕ} where
  pub puts : (stop ≡ end at text out) × (after ≡ written at text out) → Puts at text out stop after
  puts w = record { wrote = λ room. (w.0 ∙ end-with-room at text out room, w.1) }

  pub puts-all : (stop ≡ at + length text) × (after ≡ written at text out) → Puts at text out stop after
  puts-all w = record { wrote = λ _. w }

  -- the same text by another name
  pub puts-as : {other : List ℕ} → text ≡ other → Puts at text out stop after → Puts at other out stop after
  puts-as e p = subst (λ (t : List ℕ). Puts at t out stop after) e p

  -- there is room after it for what there was room for besides,
  pub room-left : (k : ℕ) → Puts at text out stop after → at + (length text + k) ≤ length out → stop + k ≤ length after
  room-left k first room =
      let w = first.wrote (omega arith) in
      omega (arith, w.0, ap length w.1 ∙ length-written at text out)

  -- and what is written there makes one text with it
  infixr 5 ◌then◌
  pub ◌then◌ : {more : List ℕ} {last : ℕ} {final : List ℕ} → Puts at text out stop after → Puts stop more after last final
      → Puts at (text ++ more) out last final
  ◌then◌ {more} first second =
      let both : length (text ++ more) ≡ length text + length more = length-append text more in
      record {
        wrote = λ room.
            let w = first.wrote (omega arith) in
            let v = second.wrote (room-left (length more) first (omega arith)) in (
              omega (arith, w.0, v.0),
              v.1 ∙ ap₂ (λ (k : ℕ) (r : List ℕ). written k more r) w.0 w.1 ∙ written_then at text more out room,
            );
      }
