-- The buffers of a system: opening leaves zeros in one, and no call changes its length, so after any list each has the length that it had before the
-- first call.
-- Assumes nothing.
use mathlib.Core.Path.{◌≡◌, refl, sym, ap, ◌∙◌}
use mathlib.Core.Bool.{Bool, true, false, cond, not}
use mathlib.Core.List.{List}
use Prim.Native.Nat.{ℕ}
use lib.Dec.{eqb}
use lib.ListN.{length, replicate, length-replicate}
use borrow.Author.Tests.{eq-eqb}
use Rattle.refusal.specs.Outcome.{Outcome, refused, done, after}
use Rattle.refusal.proofs.Reasons.{done-clear, clear-done}
use Rattle.config.specs.declared.Config.{Config}
use Rattle.protocol.specs.Trace.{Trace, start, ◌then◌calls◌, state}
use Rattle.calls.specs.Open.{open_reasons, opened, open_records}
use Rattle.calls.specs.Broadcast.{broadcast, broadcast_records}
use Rattle.calls.proofs.Refusals.{broadcast-no-effect}
use Rattle.calls.proofs.Locality.{broadcast-changes, receive-changes}
use Rattle.config.specs.Config.{good, records_size}
use Rattle.system.specs.Demand3.{Call, Open, Broadcast, Receive, System, config_at, records_after, buffer}

-- opening does not change the length of the buffer,
open-length : (config : Config) (records : List ℕ) → length (open_records config records) ≡ length records
unfolding open_records opened
open-length config records = go (opened config records) refl
  where
    go : (o : Outcome (List ℕ)) → opened config records ≡ o → length (after o (λ zeros. zeros) records) ≡ length records
    go (refused number) e = refl
    go (done zeros) e = ap length (sym (done-clear (open_reasons config records) (replicate (length records) 0) zeros e).1) ∙ length-replicate {A = ℕ} (length records) 0

-- and under a good configuration it leaves zeros in a buffer of the right size
pub open-zeros : (config : Config) (records : List ℕ) → good config ≡ true → length records ≡ records_size config → open_records config records ≡ replicate (records_size config) 0
unfolding open_records opened open_reasons
open-zeros config records g sized =
    ap (λ (o : Outcome (List ℕ)). after o (λ zeros. zeros) records)
    (clear-done (open_reasons config records) (replicate (length records) 0) (ap not g, (ap not (eq-eqb (length records) (records_size config) sized), tt)))
    ∙ ap (λ (k : ℕ). replicate k 0) sized

-- broadcasting does not change the length
broadcast-length : (config : Config) (payload records out : List ℕ) → length (broadcast_records config payload records out) ≡ length records
broadcast-length config payload records out = go (broadcast config payload records out) refl
  where
    go : (o : Outcome ℕ) → broadcast config payload records out ≡ o → length (broadcast_records config payload records out) ≡ length records
    go (refused number) e = ap length (sym (broadcast-no-effect config payload records out number e).1.0)
    go (done seq) e = (broadcast-changes config payload records out seq e).as_long

module _ (s : System) where
  -- no call changes it,
  pub after-length : (u : ℕ) (call : Call) (records : List ℕ) → length (records_after s u call records) ≡ length records
  unfolding records_after
  after-length u Open records = open-length (config_at s u) records
  after-length u (Broadcast payload out) records = broadcast-length (config_at s u) payload records out
  after-length u (Receive bundle out) records = (receive-changes (config_at s u) bundle records out).as_long

  -- and no list does
  pub buffer-length : (list : Trace Call) (u : ℕ) → length (buffer s list u) ≡ length (s.buffers u)
  unfolding state
  buffer-length start u = refl
  buffer-length (earlier then v calls call) u = go (eqb u v) (buffer-length earlier u)
    where
      go : (b : Bool) → length (buffer s earlier u) ≡ length (s.buffers u)
          → length (cond b (records_after s u call (buffer s earlier u)) (buffer s earlier u)) ≡ length (s.buffers u)
      go true below = after-length u call (buffer s earlier u) ∙ below
      go false below = below
