-- What is pooled stays, since what was delivered stays shown. From calls' `ShownStays`. Assumes nothing.
use mathlib.Core.Path.{◌≡◌, refl, sym, ap, ◌∙◌}
use mathlib.Core.Bool.{true}
use mathlib.Core.List.{List, [], ◌∷◌}
use mathlib.Core.Logic.{⊎_elim}
use Prim.Native.Nat.{ℕ, ◌<◌}
use native.Mathlib.Omega.{arith}
use lib.IntN.{ℤ}
use lib.ListN.{length}
use borrow.Author.Tests.{ltb-true, lt-ltb}
use Rattle.signers.proofs.Counting.{count-mono}
use Rattle.refusal.specs.Outcome.{Outcome, refused, done}
use Rattle.config.specs.declared.Config.{Config}
use Rattle.config.specs.declared.Slot.{Slot}
use Rattle.config.specs.Config.{slot_of_day}
use Rattle.calls.specs.Showing.{delivered}
use Rattle.calls.specs.Preserved.{SameShown}
use Rattle.calls.proofs.NoEffect.{refused-showing-gives-nothing}
use Rattle.calls.proofs.Preserved.{shown-stays}
use Rattle.setpoint.specs.Setpoint.{setpoint_in}
use Rattle.pool.specs.Pool.{delivered_setpoint, latest}
use Rattle.pool.specs.Between.{is_pooled}
use Rattle.pool.specs.Stays.{PoolKept, PoolStays}
use Rattle.pool.proofs.Pool.{none_said, latest-delivered, delivered-latest}
use Rattle.pool.proofs.Between.{pool-senders, latest-one}

-- where a setpoint is delivered the slot is shown
said-shown : (config : Config) (records : List ℕ) (sender seq : ℕ) (value : ℤ) → delivered_setpoint config records sender seq ≡ value ∷ []
    → (start : ℕ) × (delivered config (slot_of_day config sender seq) records ≡ done start)
unfolding delivered_setpoint
said-shown config records sender seq value is = go (delivered config slot records) refl
  where
    slot : Slot
    slot = slot_of_day config sender seq

    go : (outcome : Outcome ℕ) → delivered config slot records ≡ outcome → (start : ℕ) × (delivered config slot records ≡ done start)
    go (done start) e = (start, e)
    go (refused number) e =
        let nothing = (refused-showing-gives-nothing config slot records number e).0 in
        absurd (let none : 0 ≡ 1 = ap length (sym none_said ∙ (ap setpoint_in (sym nothing) ∙ is)) in omega arith)

module _ (config : Config) (before after : List ℕ)
    (kept : (slot : Slot) (start : ℕ) → delivered config slot before ≡ done start → SameShown config slot after before) where
  sender-kept : (sender : ℕ) → is_pooled config before sender ≡ true → is_pooled config after sender ≡ true
  unfolding is_pooled delivered_setpoint
  sender-kept sender p = ⊎_elim none one (latest-one config before sender)
    where
      some : 0 < length (latest config before sender)
      some = ltb-true 0 (length (latest config before sender)) p

      none : latest config before sender ≡ [] → is_pooled config after sender ≡ true
      none is = absurd (let z : length (latest config before sender) ≡ 0 = ap length is in omega (arith, some))

      one : (value : ℤ) × (latest config before sender ≡ value ∷ []) → is_pooled config after sender ≡ true
      one found =
          let at = latest-delivered config before sender found.0 found.1 in
          let shown = said-shown config before sender at.0 found.0 at.2 in
          let same = (kept (slot_of_day config sender at.0) shown.0 shown.1).1 in
          lt-ltb 0 (length (latest config after sender)) (delivered-latest config after sender at.0 found.0 at.1 (ap setpoint_in same ∙ at.2))

  pool-kept : PoolKept config before after
  pool-kept = (
    sender-kept,
    let more = count-mono (is_pooled config before) (is_pooled config after) config.n (λ u h p. sender-kept u p) in
        let first = pool-senders config before in let second = pool-senders config after in omega arith,
  )

pub pool-stays : PoolStays
pool-stays config records = (
  λ payload out. pool-kept config records _ (λ slot start e. (shown-stays config records slot start e).0 payload out),
  λ bundle out. pool-kept config records _ (λ slot start e. (shown-stays config records slot start e).1 bundle out),
)
