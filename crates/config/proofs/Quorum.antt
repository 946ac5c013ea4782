-- The quorums that a site may choose, by their two bounds. Assumes nothing.
use mathlib.Core.Path.{◌≡◌, refl}
use mathlib.Core.Bool.{Bool, true, false, ◌&&◌, and-eq-true_iff}
use Prim.Native.Nat.{◌+◌, ◌*◌}
use native.Mathlib.Omega.{arith}
use lib.Dec.{leb, ltb}
use borrow.Author.Tests.{lt-ltb, le-leb, lt-leb, leb-true, ltb-true, ltb-false}
use Rattle.octets.proofs.ComputedTests.{agree-both}
use Rattle.config.specs.Config.{least_quorum, most_quorum}
use Rattle.config.specs.Quorum.{RangeIsBothBounds, RangeIsResilience}

pub range-is-both-bounds : RangeIsBothBounds
range-is-both-bounds n t d q = agree-both _ _ within bounded
  where
    within : (leb (least_quorum n t) q && leb q (most_quorum n t d)) ≡ true → (ltb (n + t) (q + q) && leb (q + t + d) n) ≡ true
    within e =
        let (least, most) = (and-eq-true_iff (leb (least_quorum n t) q) _).0 e in
        let low = leb-true (least_quorum n t) q least in
        let high = leb-true q (most_quorum n t d) most in
        rw (lt-ltb (n + t) (q + q) (omega arith), le-leb (q + t + d) n (omega arith))

    bounded : (ltb (n + t) (q + q) && leb (q + t + d) n) ≡ true → (leb (least_quorum n t) q && leb q (most_quorum n t d)) ≡ true
    bounded e =
        let (meet, reached) = (and-eq-true_iff (ltb (n + t) (q + q)) _).0 e in
        let low = ltb-true (n + t) (q + q) meet in
        let high = leb-true (q + t + d) n reached in
        rw (le-leb (least_quorum n t) q (omega arith), le-leb q (most_quorum n t d) (omega arith))

pub range-is-resilience : RangeIsResilience
range-is-resilience n t d = go (ltb (3 * t + 2 * d) n) refl
  where
    go : (b : Bool) → ltb (3 * t + 2 * d) n ≡ b → leb (least_quorum n t) (most_quorum n t d) ≡ b
    go true h = le-leb (least_quorum n t) (most_quorum n t d) (omega (arith, ltb-true (3 * t + 2 * d) n h))
    go false h = lt-leb (least_quorum n t) (most_quorum n t d) (omega (arith, ltb-false (3 * t + 2 * d) n h))
