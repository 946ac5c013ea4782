-- What it is to be a correct node: one of the n nodes that is not faulty. Assumes nothing.
use mathlib.Core.Path.{◌≡◌}
use mathlib.Core.Bool.{true, false, not, and-eq-true_iff}
use Prim.Native.Nat.{ℕ, ◌+◌, ◌≤◌, ◌<◌}
use native.Mathlib.Omega.{arith}
use lib.Dec.{ltb}
use borrow.Author.Tests.{lt-ltb, ltb-true}
use Rattle.signers.specs.Sets.{NodeSet, count}
use Rattle.signers.proofs.Counting.{count_same, count-rest}
use Rattle.protocol.specs.OneSlot.{correct}

-- a correct node is one of the n
pub correct-below : (n : ℕ) (faulty : NodeSet) (u : ℕ) → correct n faulty u ≡ true → u < n
correct-below n faulty u c = ltb-true u n ((and-eq-true_iff (ltb u n) (not (faulty u))).0 c).0

-- a node below n that is not faulty is correct
pub below-correct : (n : ℕ) (faulty : NodeSet) (u : ℕ) → u < n → faulty u ≡ false → correct n faulty u ≡ true
below-correct n faulty u l e = (and-eq-true_iff (ltb u n) (not (faulty u))).1 (lt-ltb u n l, rw e)

-- at least n - t nodes are correct
pub correct-many : (n t : ℕ) (faulty : NodeSet) → count faulty n ≤ t → n ≤ t + count (correct n faulty) n
correct-many n t faulty few =
    let all = count_same (correct n faulty) (λ u. not (faulty u)) n (λ u l. rw (lt-ltb u n l)) in
    omega (arith, count-rest faulty n)
