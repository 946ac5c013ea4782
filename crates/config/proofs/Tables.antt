-- The ten configurations of R2.7, by one test computed over the list; and eight nodes with any quorum, by the two bounds.
-- Assumes nothing.
use mathlib.Core.Path.{◌≡◌, refl, sym}
use mathlib.Core.Bool.{Bool, true, false, ◌&&◌, ◌||◌, not, beq, and-eq-true_iff, true≢false}
use Prim.Native.Nat.{ℕ, ◌≤◌}
use borrow.Author.Tests.{leb-true, eq-eqb, eqb-true, eqb-false}
use native.Mathlib.Omega.{arith}
use lib.Dec.{leb, eqb}
use Rattle.octets.proofs.ComputedTests.{every, every-says, agree-says, agree-both}
use Rattle.config.specs.Config.{config_for, with_quorum, good, quorum}
use Rattle.config.specs.Tables.{Row, tables, row_config, TablesHold, BadWithAnyQuorum, EightNodesFiveOrSix}

holds : ℕ → Row → Bool
holds day row = beq (good (row_config row day)) row.is_good && eqb (quorum (row_config row day)) row.q

all_hold : (day : ℕ) → every (holds day) tables ≡ true
unfolding holds tables config_for good quorum
all_hold day = refl

pub tables-hold : TablesHold
unfolding holds
tables-hold row day m =
    let both = (and-eq-true_iff _ _).0 (every-says (holds day) m (all_hold day)) in
    (agree-says _ _ both.0, eqb-true _ _ both.1)

-- ---- any quorum

stays-bad : (day q : ℕ) → Row → Bool
stays-bad day q row = row.is_good || not (good (with_quorum (row_config row day) q))

all-stay-bad : (day q : ℕ) → every (stays-bad day q) tables ≡ true
unfolding stays-bad tables config_for with_quorum good
all-stay-bad day q = refl

pub bad-with-any-quorum : BadWithAnyQuorum
unfolding stays-bad
bad-with-any-quorum row day q m bad = go (good (with_quorum (row_config row day) q)) refl
  where
    go : (b : Bool) → good (with_quorum (row_config row day) q) ≡ b → good (with_quorum (row_config row day) q) ≡ false
    go true e = absurd (true≢false (sym (rw (bad, e) at (every-says (stays-bad day q) m (all-stay-bad day q)))))
    go false e = e

pub eight-nodes-five-or-six : EightNodesFiveOrSix
unfolding good with_quorum config_for
eight-nodes-five-or-six day q = agree-both _ _ chosen allowed
  where
    chosen : (leb 5 q && leb q 6) ≡ true → (eqb q 5 || eqb q 6) ≡ true
    chosen e =
        let (low, high) = (and-eq-true_iff (leb 5 q) (leb q 6)).0 e in
        go (eqb q 5) refl (leb-true 5 q low) (leb-true q 6 high)
      where
        go : (b : Bool) → eqb q 5 ≡ b → 5 ≤ q → q ≤ 6 → (b || eqb q 6) ≡ true
        go true e low high = refl
        go false e low high = eq-eqb q 6 (omega (arith, eqb-false q 5 e))

    allowed : (eqb q 5 || eqb q 6) ≡ true → (leb 5 q && leb q 6) ≡ true
    allowed e = go (eqb q 5) refl (eqb q 6) refl e
      where
        go : (a : Bool) → eqb q 5 ≡ a → (b : Bool) → eqb q 6 ≡ b → (a || b) ≡ true → (leb 5 q && leb q 6) ≡ true
        go true five b six e = rw (eqb-true q 5 five)
        go false five true six e = rw (eqb-true q 6 six)
        go false five false six e = absurd (true≢false (sym e))
