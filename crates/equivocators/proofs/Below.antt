-- A test that passes for some number below n; and a test in two halves that passes for each.
-- Assumes nothing.
use mathlib.Core.Path.{◌≡◌, refl, sym}
use mathlib.Core.Bool.{Bool, true, false, ◌&&◌, ◌||◌, or-true, true≢false}
use Prim.Native.Nat.{ℕ, zero, suc, ◌+◌, ◌<◌}
use native.Mathlib.Nat.{le_step, lt-suc_self}
use native.Mathlib.Numerals.{add-one}
use native.Mathlib.Omega.{arith}
use lib.Arith.{lt_of_le-ne}
use lib.Dec.{eqb}
use borrow.Author.Tests.{eqb-true, eqb-false}
use Rattle.signers.specs.Sets.{NodeSet}
use Rattle.signers.specs.Signers.{union}
use Rattle.protocol.specs.Trace.{each}
use Rattle.equivocators.specs.Equivocators.{some_below}
use Rattle.equivocators.specs.Inner.{Names}
use Rattle.equivocators.proofs.Entries.{joined}

pub some_below_lem : (test : ℕ → Bool) (n k : ℕ) → k < n → test k ≡ true → some_below test n ≡ true
unfolding some_below
some_below_lem test zero k h e = absurd (omega arith)
some_below_lem test (suc n) k h e = go (eqb k n) refl (λ l. some_below_lem test n k l e)
  where
    go : (m : Bool) → eqb k n ≡ m → (k < n → some_below test n ≡ true) → (some_below test n || test n) ≡ true
    go true is below = let last : test n ≡ true = rw (eqb-true k n is) at e in rw last (or-true (some_below test n))
    go false is below = rw (below (lt_of_le-ne (omega arith) (eqb-false k n is)))

pub below-some : (test : ℕ → Bool) (n : ℕ) → some_below test n ≡ true → (k : ℕ) × (k < n) × (test k ≡ true)
unfolding some_below
below-some test zero e = absurd (true≢false (sym e))
below-some test (suc n) e = go (some_below test n) refl e (below-some test n)
  where
    go : (m : Bool) → some_below test n ≡ m → (m || test n) ≡ true → (some_below test n ≡ true → (k : ℕ) × (k < n) × (test k ≡ true)) → (k : ℕ) × (k < suc n) × (test k ≡ true)
    go true is e before = let found = before is in (found.0, le_step found.1, found.2)
    go false is e before = (n, lt-suc_self n, e)

-- the names of one more are joined to those so far
pub names-next : (names : ℕ → NodeSet) (n w a b : ℕ) → w ≡ union a b → Names (λ node. some_below (λ k. names k node) n) a → Names (names n) b
    → Names (λ node. some_below (λ k. names k node) (n + 1)) w
unfolding some_below
names-next names n w a b e before now node = rw (add-one n) (joined w a b node _ _ e (before node) (now node))

-- each passes both halves where each passes the first and each the second
pub each_both : (p q : ℕ → Bool) (n : ℕ) → each (λ k. p k && q k) n ≡ (each p n && each q n)
unfolding each
each_both p q zero = refl
each_both p q (suc n) = rw (each_both p q n) (go (p n) (q n) (each p n) (each q n))
  where
    go : (a b c d : Bool) → ((a && b) && (c && d)) ≡ ((a && c) && (b && d))
    go true true c d = refl
    go true false true d = refl
    go true false false d = refl
    go false b c d = refl
