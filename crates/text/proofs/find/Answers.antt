-- `find` meets its contract: `before` is the place of the first byte that passes, or the length. Assumes nothing.
use Rattle.std.proofs.Common.{rules, ◌≡◌, ◌==◌, ℕ, ◌≤◌, List, Bool, true, false, cond, ltb, Some, None, refl, ◌∙◌}
use native.Mathlib.Omega.{arith}
use borrow.Author.Tests.{tests, ltb-false}
use Rattle.std.specs.Option.{unwrap_or}
use Rattle.std.proofs.lemmas.Iterator.{YieldsList-from_slice}
use Rattle.std.proofs.lemmas.Iterator.Search.{position_from_yields_List}
use Rattle.std.proofs.lemmas.List.Recursion.{is_position_or_len}
use Rattle.std.specs.List.{position_or_len}
use Rattle.text.specs.Text.{before}
use Rattle.text.proofs.Fields.{before-le}
use Rattle.text.proofs.find.Goals as goal

first-place : (b : ℕ) (xs : List ℕ) → before b xs ≡ position_or_len (λ x. x == b) xs
unfolding before
first-place b xs = is_position_or_len (before b) (λ x. x == b) refl (λ x ys. grind arith) xs

place-or-length : (at n : ℕ) → at ≤ n → unwrap_or (cond (ltb at n) (Some at) None) n ≡ at
place-or-length at n h = go (ltb at n) refl
  where
    go : (b : Bool) → ltb at n ≡ b → unwrap_or (cond b (Some at) None) n ≡ at
    go true e = refl
    go false e = omega (arith, ltb-false at n e)

pub returns : goal.returns
returns c =
    let text = c.args.text.now in
    let found = position_from_yields_List (λ x. x == c.args.byte) _ _ c.position.result c.position.ensures.ran (YieldsList-from_slice text cc) (λ x b q k. search (rules, tests)) in
    c.unwrap_or.ensures ∙ rw (found, ← first-place c.args.byte text) (place-or-length _ _ (before-le c.args.byte text))
