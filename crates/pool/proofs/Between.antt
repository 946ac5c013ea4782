-- The outcome lies between setpoints of correct senders, since more than t senders are pooled with a value at most it, and more than t with one at least it;
-- and correct senders are enough for one. Assumes nothing.
use mathlib.Core.Path.{◌≡◌, refl, sym, ap, ◌∙◌}
use mathlib.Core.Bool.{Bool, true, false, cond, not, ◌&&◌}
use mathlib.Core.List.{List, [], ◌∷◌}
use mathlib.Core.Logic.{◌⊎◌, inl, inr, ⊎_elim}
use Prim.Native.Nat.{ℕ, zero, suc, ◌+◌, ◌*◌, ◌≤◌, ◌<◌}
use native.Mathlib.Omega.{arith}
use lib.Dec.{ltb}
use lib.IntN.{ℤ}
use lib.ListN.{length, take}
use lib.Signed.{le_z}
use borrow.Author.Tests.{ltb-true, ltb-false, not-true}
use Rattle.signers.specs.Sets.{NodeSet, indicator, count, both}
use Rattle.signers.proofs.Counting.{count_same, count-mono, count-rest, some-correct}
use Rattle.refusal.proofs.Reasons.{done-clear}
use Rattle.config.specs.declared.Config.{Config}
use Rattle.config.specs.Config.{slots}
use Rattle.config.proofs.Laws.{good-says}
use Rattle.middle.specs.Middle.{lower_middle}
use Rattle.middle.specs.Sorting.{count_if}
use Rattle.middle.proofs.Sorting.{count-append, count-all}
use Rattle.middle.proofs.Middle.{middle-divides}
use Rattle.pool.specs.Pool.{delivered_setpoints, latest, pooled, pool, setpoint_reasons, setpoint}
use Rattle.pool.specs.Between.{is_pooled, PooledFrom, OutcomeBetween, CorrectSuffice}
use Rattle.pool.proofs.Pool.{setpoint-done}

-- ---- the pool, by its senders

module _ (config : Config) (records : List ℕ) where
  -- a sender has one value in it, or none
  pub latest-one : (sender : ℕ) → (latest config records sender ≡ []) ⊎ ((value : ℤ) × (latest config records sender ≡ value ∷ []))
  unfolding latest
  latest-one sender = go (delivered_setpoints config records sender slots)
    where
      go : (xs : List ℤ) → (take 1 xs ≡ []) ⊎ ((value : ℤ) × (take 1 xs ≡ value ∷ []))
      go [] = inl refl
      go (x ∷ xs) = inr (x, refl)

  -- the senders whose value passes a test
  passes : (ℤ → Bool) → NodeSet
  passes test sender = ltb 0 (count_if test (latest config records sender))

  passes-says : (test : ℤ → Bool) (sender : ℕ) → passes test sender ≡ true
      → (value : ℤ) × (latest config records sender ≡ value ∷ []) × (test value ≡ true)
  unfolding passes count_if
  passes-says test sender p =
      ⊎_elim
      (λ none. absurd (let z : count_if test (latest config records sender) ≡ 0 = ap (count_if test) none in omega (arith, some)))
      (λ one. (one.0, one.1, go one.0 (test one.0) refl some (ap (count_if test) one.1)))
      (latest-one sender)
    where
      some : 0 < count_if test (latest config records sender)
      some = ltb-true 0 (count_if test (latest config records sender)) p

      go : (value : ℤ) (m : Bool) → test value ≡ m → 0 < count_if test (latest config records sender)
          → count_if test (latest config records sender) ≡ cond m 1 0 → m ≡ true
      go value true q h e = refl
      go value false q h e = absurd (omega arith)

  one-counts : (test : ℤ → Bool) (sender : ℕ) → count_if test (latest config records sender) ≡ indicator (passes test sender)
  unfolding passes count_if
  one-counts test sender =
      ⊎_elim (λ none. rw none) (λ one. rw one.1 (go (test one.0))) (latest-one sender)
    where
      go : (m : Bool) → cond m 1 0 ≡ indicator (ltb 0 (cond m 1 0))
      go true = refl
      go false = refl

  -- as many values of the pool pass it as there are such senders
  pool-counts : (test : ℤ → Bool) (senders : ℕ) → count_if test (pooled config records senders) ≡ count (passes test) senders
  unfolding pooled count count_if
  pool-counts test zero = refl
  pool-counts test (suc sender) =
      let more = count-append test (pooled config records sender) (latest config records sender) in
      let rest = pool-counts test sender in
      let one = one-counts test sender in
      omega arith

  -- a sender whose value passes a test is pooled
  passes-pooled : (test : ℤ → Bool) (sender : ℕ) → passes test sender ≡ true → is_pooled config records sender ≡ true
  unfolding is_pooled
  passes-pooled test sender p = let one = passes-says test sender p in rw one.1

  -- and a sender is pooled if it has any value
  pooled-test : (sender : ℕ) → passes (λ x. true) sender ≡ is_pooled config records sender
  unfolding passes is_pooled
  pooled-test sender = ap (ltb 0) (count-all (latest config records sender))

  -- among more than t senders whose value passes a test there is a correct one
  correct-passes : (faulty : NodeSet) (test : ℤ → Bool) → count (both faulty (is_pooled config records)) config.n ≤ config.t
      → config.t < count_if test (pool config records)
      → (value : ℤ) × PooledFrom config records faulty value × (test value ≡ true)
  unfolding pool
  correct-passes faulty test few many =
      let found = some-correct (passes test) (both faulty (is_pooled config records)) config.n config.t few (omega (arith, pool-counts test config.n)) in
      let one = passes-says test found.0 found.2 in
      let correct = go (faulty found.0) (is_pooled config records found.0) found.3 (passes-pooled test found.0 found.2) in
      (one.0, record { sender = found.0; below = found.1; correct = correct; pooled = one.1 }, one.2)
    where
      go : (m k : Bool) → (m && k) ≡ false → k ≡ true → m ≡ false
      go true k e h = sym h ∙ e
      go false k e h = refl

pub outcome-between : OutcomeBetween
unfolding setpoint setpoint_reasons
outcome-between config records faulty outcome few is =
    let clear = done-clear (setpoint_reasons config records) (lower_middle (pool config records)) outcome is in
    let enough = ltb-false (length (pool config records)) (2 * config.t + 1) clear.0.1.1.1.0 in
    let divided = middle-divides (pool config records) (omega arith) in
    let middle : lower_middle (pool config records) ≡ outcome = clear.1 in
    let low = divided.0 in
    let high = divided.1 in (
      correct-passes config records faulty (λ x. le_z x outcome) few (rw (sym middle) (omega arith)),
      correct-passes config records faulty (λ x. le_z outcome x) few (rw (sym middle) (omega arith)),
    )

-- ---- enough of them

module _ (config : Config) (records : List ℕ) where
  -- the pool has a value for each sender that is pooled
  pub pool-senders : length (pool config records) ≡ count (is_pooled config records) config.n
  unfolding pool
  pool-senders =
      sym (count-all (pooled config records config.n))
      ∙ (pool-counts config records (λ x. true) config.n
      ∙ count_same (passes config records (λ x. true)) (is_pooled config records) config.n (λ u h. same u))
    where
      same : (u : ℕ) → passes config records (λ x. true) u ≡ is_pooled config records u
      same u = pooled-test config records u

pub correct-suffice : CorrectSuffice
correct-suffice config records faulty g sized formed few all =
    let correct : NodeSet = λ u. not (faulty u) in
    let rest = count-rest faulty config.n in
    let more = count-mono correct (is_pooled config records) config.n (λ u h p. all u h (not-true (faulty u) p)) in
    let senders = pool-senders config records in
    let bounds = (good-says config g).resilient in
    setpoint-done config records g sized formed (omega arith)
