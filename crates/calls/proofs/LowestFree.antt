-- Which records the search for a free number depends on, and what a broadcast that is done has passed.
-- Assumes nothing.
use mathlib.Core.Path.{◌≡◌, refl, sym, ◌∙◌, subst}
use mathlib.Core.Bool.{Bool, true, false, cond, true≢false}
use mathlib.Core.List.{List}
use Prim.Native.Nat.{ℕ, zero, suc, ◌+◌, ◌≤◌, ◌<◌}
use native.Mathlib.Omega.{arith}
use lib.Arith.{lt_of_le-ne}
use lib.ListN.{length}
use borrow.Author.Tests.{eqb-true, not-false}
use Rattle.octets.specs.Octets.{blank}
use Rattle.refusal.specs.Outcome.{Outcome, refused, done, checked, ◌and_then◌}
use Rattle.refusal.proofs.Reasons.{Clear, refused-not-done, done-clear}
use Rattle.config.specs.declared.Config.{Config}
use Rattle.config.specs.Config.{good, slots, records_size, in_range}
use Rattle.record.specs.Record.{well_formed}
use Rattle.payload.specs.Payload.{payload_size}
use Rattle.calls.specs.Records.{record_at, own_slot}
use Rattle.calls.specs.Broadcast.{search, broadcast_reasons, broadcast}
use Rattle.calls.specs.Locality.{ends}
use Rattle.calls.proofs.RecordBounds.{own_range}
use Rattle.calls.proofs.FreeNumber.{announced-is-lowest-free}

-- the search depends on our records up to one at which it ends,
pub search-agrees : (config : Config) (records others : List ℕ) (seq left last : ℕ) → seq ≤ last → last < seq + left
    → ends config (record_at config (own_slot config last) records) ≡ true
    → ((i : ℕ) → i ≤ last → record_at config (own_slot config i) records ≡ record_at config (own_slot config i) others)
    → search config records seq left ≡ search config others seq left
unfolding search
search-agrees config records others seq zero last from to end same = absurd (omega arith)
search-agrees config records others seq (suc left) last from to end same =
    rw (← same seq from)
    (go (λ more. search-agrees config records others (suc seq) left last more (omega arith) end same) (blank (record_at config (own_slot config seq) records)) refl
    (well_formed config config.own (record_at config (own_slot config seq) records)) refl)
  where
    -- a record that does not end the search is not the last
    further : blank (record_at config (own_slot config seq) records) ≡ false → well_formed config config.own (record_at config (own_slot config seq) records) ≡ true → suc seq ≤ last
    further b f =
        lt_of_le-ne from (λ e. true≢false (sym (subst (λ (i : ℕ). ends config (record_at config (own_slot config i) records) ≡ true) (sym e) end) ∙ rw (b, f)))

    go : (suc seq ≤ last → search config records (suc seq) left ≡ search config others (suc seq) left)
        → (b : Bool) → blank (record_at config (own_slot config seq) records) ≡ b → (f : Bool) → well_formed config config.own (record_at config (own_slot config seq) records) ≡ f
        → cond b (done seq) (cond f (search config records (suc seq) left) (refused 21)) ≡ cond b (done seq) (cond f (search config others (suc seq) left) (refused 21))
    go below true b f k = refl
    go below false b true k = below (further b k)
    go below false b false k = refl

-- and on no record but ours
pub search-own : (config : Config) (records others : List ℕ) (seq left : ℕ) → seq + left ≤ slots
    → ((i : ℕ) → i < slots → record_at config (own_slot config i) records ≡ record_at config (own_slot config i) others)
    → search config records seq left ≡ search config others seq left
unfolding search
search-own config records others seq zero l same = refl
search-own config records others seq (suc left) l same =
    rw (same seq (omega arith), search-own config records others (suc seq) left (omega arith) same)

-- a broadcast that is done: the table is good, the lengths are right, and the number answered is that of a blank record
pub record Announced (config : Config) (payload records out : List ℕ) (k : ℕ) : Type 0 where
  pub configured : good config ≡ true
  pub whole : length payload ≡ payload_size
  pub sized : length records ≡ records_size config
  pub below : k < slots
  pub range : in_range config (own_slot config k) ≡ true
  pub free : blank (record_at config (own_slot config k) records) ≡ true

broadcast-clear : (config : Config) (payload records out : List ℕ) → Clear (broadcast_reasons config payload records out)
    → (good config ≡ true) × (length payload ≡ payload_size) × (length records ≡ records_size config)
unfolding broadcast_reasons
broadcast-clear config payload records out c =
    (not-false _ c.0, eqb-true _ _ (not-false _ c.1.0), eqb-true _ _ (not-false _ c.1.1.1.0))

pub broadcast-done : (config : Config) (payload records out : List ℕ) (k : ℕ) → broadcast config payload records out ≡ done k → Announced config payload records out k
unfolding broadcast
broadcast-done config payload records out k e = go (checked (broadcast_reasons config payload records out)) refl e
  where
    told : (first : Unit) → checked (broadcast_reasons config payload records out) ≡ done first → Clear (broadcast_reasons config payload records out)
    told first h = (done-clear (broadcast_reasons config payload records out) tt first h).0

    go : (o : Outcome Unit) → checked (broadcast_reasons config payload records out) ≡ o → (o and_then (λ _. search config records 0 slots)) ≡ done k
        → Announced config payload records out k
    go (refused number) h f = absurd (refused-not-done number k f)
    go (done first) h f =
        let c = broadcast-clear config payload records out (told first h) in
        let found = announced-is-lowest-free config payload records out k e in
        record { configured = c.0; whole = c.1; sized = c.2; below = found.ours; range = own_range config k c.0 found.ours; free = found.free }
