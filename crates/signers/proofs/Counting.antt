-- Counts of node sets, below any number n of nodes: what a count is worth, that two quorums share a correct node, and that messages enough
-- from many senders leave some receiver with many. From the definitions of specs/Sets.antt, by induction on n. Assumes nothing.
use mathlib.Core.Bool.{Bool, true, false, not, ◌&&◌, ◌||◌, and-eq-true_iff}
use mathlib.Core.Path.{◌≡◌, refl, sym, ap, ◌∙◌}
use Prim.Native.Nat.{ℕ, zero, suc, ◌+◌, ◌*◌, ◌/◌, ◌≤◌, ◌<◌, zero-le}
use native.Mathlib.Nat.{le_refl, le_step, lt-suc_self, zero-mul, add-mul}
use native.Mathlib.Omega.{arith}
use borrow.Author.Tests.{ltb-true, ltb-false, lt-leb, le-leb, eqb-true, eqb-false, ne_eqb}
use lib.Arith.{lt_of_le-ne}
use lib.Dec.{leb, ltb, eqb}
use Rattle.signers.specs.Sets.{NodeSet, indicator, count, both, either}

-- ---- what one node adds to a count

indicator-le : (a : Bool) → indicator a ≤ 1
indicator-le true = le_refl 1
indicator-le false = zero-le

pub indicator-mono : (a b : Bool) → (a ≡ true → b ≡ true) → indicator a ≤ indicator b
indicator-mono true b h = rw (h refl) (le_refl 1)
indicator-mono false b h = zero-le

indicator-either : (a b : Bool) → indicator (a || b) + indicator (a && b) ≡ indicator a + indicator b
indicator-either true true = refl
indicator-either true false = refl
indicator-either false true = refl
indicator-either false false = refl

indicator-rest : (a : Bool) → indicator a + indicator (not a) ≡ 1
indicator-rest true = refl
indicator-rest false = refl

-- ---- the count of one set, and of two

-- sets that agree below n have the same count
pub count_same : (p q : NodeSet) (n : ℕ) → ((u : ℕ) → u < n → p u ≡ q u) → count p n ≡ count q n
unfolding count
count_same p q zero h = refl
count_same p q (suc n) h = rw (h n (lt-suc_self n), count_same p q n (λ u l. h u (le_step l)))

-- no set has more than the n nodes there are
pub count-le : (p : NodeSet) (n : ℕ) → count p n ≤ n
unfolding count
count-le p zero = zero-le
count-le p (suc n) = omega (arith, count-le p n, indicator-le (p n))

-- a set has no more nodes than one that it is part of
pub count-mono : (p q : NodeSet) (n : ℕ) → ((u : ℕ) → u < n → p u ≡ true → q u ≡ true) → count p n ≤ count q n
unfolding count
count-mono p q zero h = zero-le
count-mono p q (suc n) h = omega (arith, indicator-mono (p n) (q n) (h n (lt-suc_self n)), count-mono p q n (λ u l. h u (le_step l)))

-- the two counts have a node of both sets twice: once for the union, once for the common part
pub count-either : (p q : NodeSet) (n : ℕ) → count (either p q) n + count (both p q) n ≡ count p n + count q n
unfolding count
count-either p q zero = refl
count-either p q (suc n) = omega (arith, count-either p q n, indicator-either (p n) (q n))

-- each of the n nodes is in the set or outside it
pub count-rest : (p : NodeSet) (n : ℕ) → count p n + count (λ u. not (p u)) n ≡ n
unfolding count
count-rest p zero = refl
count-rest p (suc n) = omega (arith, count-rest p n, indicator-rest (p n))

-- node 0 may be counted first, and then the others
pub count-first : (p : NodeSet) (n : ℕ) → count p (suc n) ≡ indicator (p 0) + count (λ u. p (suc u)) n
unfolding count
count-first p zero = refl
count-first p (suc n) = omega (arith, count-first p n)

-- ---- sums over the nodes, of which a count is one

-- the sum of f over the nodes 0 to n - 1
sum : (ℕ → ℕ) → ℕ → ℕ
sum f zero = 0
sum f (suc n) = f n + sum f n

-- nothing at any node
sum-zero : (n : ℕ) → sum (λ u. 0) n ≡ 0
unfolding sum
sum-zero zero = refl
sum-zero (suc n) = omega (arith, sum-zero n)

-- no more at any node, no more in all
sum-le : (f g : ℕ → ℕ) (n : ℕ) → ((u : ℕ) → u < n → f u ≤ g u) → sum f n ≤ sum g n
unfolding sum
sum-le f g zero h = zero-le
sum-le f g (suc n) h = omega (arith, h n (lt-suc_self n), sum-le f g n (λ u l. h u (le_step l)))

-- two sums in one
sum-add : (f g : ℕ → ℕ) (n : ℕ) → sum (λ u. f u + g u) n ≡ sum f n + sum g n
unfolding sum
sum-add f g zero = refl
sum-add f g (suc n) = omega (arith, sum-add f g n)

-- k times as much at each node
sum-times : (f : ℕ → ℕ) (k n : ℕ) → sum (λ u. f u * k) n ≡ sum f n * k
unfolding sum
sum-times f k zero = sym (zero-mul k)
sum-times f k (suc n) = rw (sum-times f k n, add-mul)

-- a double sum, by rows and by columns
sum-swap : (f : ℕ → ℕ → ℕ) (n m : ℕ) → sum (λ s. sum (λ r. f s r) m) n ≡ sum (λ r. sum (λ s. f s r) n) m
unfolding sum
sum-swap f zero m = sym (sum-zero m)
sum-swap f (suc n) m = rw (sum-swap f n m) (sym (sum-add (λ r. f n r) (λ r. sum (λ s. f s r) n) m))

-- of two sums the larger has a larger term
sum-exceeds : (f g : ℕ → ℕ) (n : ℕ) → sum f n < sum g n → (u : ℕ) × (u < n) × (f u < g u)
unfolding sum
sum-exceeds f g zero h = absurd (omega arith)
sum-exceeds f g (suc n) h = go (sum-exceeds f g n) (ltb (f n) (g n)) refl
  where
    go : (sum f n < sum g n → (u : ℕ) × (u < n) × (f u < g u)) → (m : Bool) → ltb (f n) (g n) ≡ m → (u : ℕ) × (u < suc n) × (f u < g u)
    go below true e = (n, lt-suc_self n, ltb-true (f n) (g n) e)
    go below false e = let r = below (omega (arith, ltb-false (f n) (g n) e)) in (r.0, le_step r.1, r.2)

-- a count has 1 at each member
count-sum : (p : NodeSet) (n : ℕ) → count p n ≡ sum (λ u. indicator (p u)) n
unfolding count sum
count-sum p zero = refl
count-sum p (suc n) = ap (λ (k : ℕ). indicator (p n) + k) (count-sum p n)

-- k for each member
count-times : (p : NodeSet) (k n : ℕ) → sum (λ u. indicator (p u) * k) n ≡ count p n * k
count-times p k n = sum-times (λ u. indicator (p u)) k n ∙ ap (λ (x : ℕ). x * k) (sym (count-sum p n))

-- a set with no member counts nothing
pub count_none : (p : NodeSet) (n : ℕ) → ((u : ℕ) → u < n → p u ≡ false) → count p n ≡ 0
count_none p n h = count_same p (λ u. false) n h ∙ count-sum (λ u. false) n ∙ sum-zero n

-- a set of one node counts 1
pub count-single : (v n : ℕ) → v < n → count (λ u. eqb u v) n ≡ 1
unfolding count
count-single v zero h = absurd (omega arith)
count-single v (suc n) h = go (count-single v n) (eqb n v) refl
  where
    go : (v < n → count (λ u. eqb u v) n ≡ 1) → (m : Bool) → eqb n v ≡ m → indicator (eqb n v) + count (λ u. eqb u v) n ≡ 1
    go below true e =
        let same : n ≡ v = eqb-true n v e in
        let rest = count_none (λ u. eqb u v) n (λ u l. ne_eqb u v (omega arith)) in
        rw (e, rest)
    go below false e = let other = eqb-false n v e in rw (e, below (lt_of_le-ne (omega arith) (λ q. other (sym q))))

-- a set with a member counts at least 1
pub count-some : (p : NodeSet) (n v : ℕ) → v < n → p v ≡ true → 0 < count p n
count-some p n v below m =
    let single = count-mono (λ u. eqb u v) p n (λ u l e. rw (eqb-true u v e) m) in
    omega (arith, count-single v n below)

-- ---- a node that a count stands for

-- the larger of two sets has a node that the other lacks
pub count-exceeds : (p q : NodeSet) (n : ℕ) → count q n < count p n → (u : ℕ) × (u < n) × (p u ≡ true) × (q u ≡ false)
count-exceeds p q n h =
    let r = sum-exceeds (λ u. indicator (q u)) (λ u. indicator (p u)) n (rw (count-sum q n, count-sum p n) at h) in
    let b = split (q r.0) (p r.0) r.2 in (r.0, r.1, b.0, b.1)
  where
    split : (a b : Bool) → indicator a < indicator b → (b ≡ true) × (a ≡ false)
    split true b l = absurd (omega (arith, indicator-le b))
    split false true l = (refl, refl)
    split false false l = absurd (omega arith)

-- a set whose count is not 0 has a member
pub some-member : (p : NodeSet) (n : ℕ) → 0 < count p n → (u : ℕ) × (u < n) × (p u ≡ true)
some-member p n h =
    let r = count-exceeds p (λ u. false) n (omega (arith, count_none (λ u. false) n (λ u l. refl))) in (r.0, r.1, r.2)

-- a set of more than t nodes has a correct one, where at most t are faulty
pub some-correct : (p faulty : NodeSet) (n t : ℕ) → count faulty n ≤ t → t < count p n
    → (u : ℕ) × (u < n) × (p u ≡ true) × (faulty u ≡ false)
some-correct p faulty n t few many = count-exceeds p faulty n (omega arith)

-- at least one more than half of m is strictly more than half of m
pub more-than-half : (m k : ℕ) → leb (m / 2 + 1) k ≡ ltb m (k + k)
more-than-half m k = go (ltb m (k + k)) refl
  where
    go : (b : Bool) → ltb m (k + k) ≡ b → leb (m / 2 + 1) k ≡ b
    go true h = le-leb (m / 2 + 1) k (omega (arith, ltb-true m (k + k) h))
    go false h = lt-leb (m / 2 + 1) k (omega (arith, ltb-false m (k + k) h))

-- two quorums share more than t nodes, where twice their size is more than n + t
pub quorums-meet : (p q : NodeSet) (n t k : ℕ) → n + t < k + k → k ≤ count p n → k ≤ count q n → t < count (both p q) n
quorums-meet p q n t k big hp hq = omega (arith, count-either p q n, count-le (either p q) n)

-- two such quorums share a correct node
pub quorums-share-correct : (p q faulty : NodeSet) (n t k : ℕ) → n + t < k + k → count faulty n ≤ t → k ≤ count p n → k ≤ count q n
    → (u : ℕ) × (u < n) × (p u ≡ true) × (q u ≡ true) × (faulty u ≡ false)
quorums-share-correct p q faulty n t k big few hp hq =
    let r = some-correct (both p q) faulty n t few (quorums-meet p q n t k big hp hq) in
    let b = (and-eq-true_iff (p r.0) (q r.0)).0 r.2 in (r.0, r.1, b.0, b.1, r.3)

-- If each sender reaches at least m of the receivers, and that is more than k for each receiver, some receiver is reached by more than k senders.
pub pigeonhole : (senders receivers : NodeSet) (reached : ℕ → ℕ → Bool) (n m k : ℕ)
    → ((s : ℕ) → s < n → senders s ≡ true → m ≤ count (both receivers (reached s)) n)
    → count receivers n * k < count senders n * m
    → (r : ℕ) × (r < n) × (receivers r ≡ true) × (k < count (both senders (λ s. reached s r)) n)
pigeonhole senders receivers reached n m k each many =
    let rows = sum-le (λ s. indicator (senders s) * m) (λ s. sum (λ r. cell s r) n) n (λ s l. row s l (senders s) refl) in
    let columns = sum-swap cell n n in
    let asked = count-times receivers k n in
    let sent = count-times senders m n in
    let r = sum-exceeds (λ r. indicator (receivers r) * k) (λ r. sum (λ s. cell s r) n) n (omega arith) in
    let c = column r.0 (receivers r.0) refl r.2 in (r.0, r.1, c.0, c.1)
  where
    -- 1 for a sender and a receiver that it reaches
    cell : ℕ → ℕ → ℕ
    cell s r = indicator (receivers r && (senders s && reached s r))

    row : (s : ℕ) → s < n → (b : Bool) → senders s ≡ b → indicator b * m ≤ sum (λ r. indicator (receivers r && (b && reached s r))) n
    row s l true e = omega (arith, each s l e, count-sum (both receivers (reached s)) n)
    row s l false e = omega arith

    column : (r : ℕ) (b : Bool) → receivers r ≡ b → indicator b * k < sum (λ s. indicator (b && (senders s && reached s r))) n
        → (receivers r ≡ true) × (k < count (both senders (λ s. reached s r)) n)
    column r true e l = (e, omega (arith, count-sum (both senders (λ s. reached s r)) n))
    column r false e l = absurd (omega (arith, sum-zero n))
