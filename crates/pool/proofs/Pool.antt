-- What is pooled, by the records: the setpoint that a record holds, one record more of a sender, one sender more; and the refusals of the call.
-- Assumes nothing.
use mathlib.Core.Path.{◌≡◌, refl, sym, ap, ◌∙◌}
use mathlib.Core.Bool.{Bool, true, false, cond, not}
use mathlib.Core.List.{List, [], ◌∷◌, ◌++◌, append-nil}
use Prim.Native.Nat.{ℕ, zero, suc, ◌+◌, ◌*◌, ◌≤◌, ◌<◌}
use native.Mathlib.Nat.{le_step, lt-suc_self}
use native.Mathlib.Numerals.{add-one}
use native.Mathlib.Omega.{arith}
use lib.Dec.{ltb, lit≤}
use lib.IntN.{ℤ}
use lib.ListN.{length, take, set, length-append}
use lib.Seq.{take-suc-set}
use borrow.Author.Tests.{eq-eqb, ne_eqb, lt-ltb, le-ltb, ltb-true, ltb-false}
use Rattle.std.specs.Prelude.{Option, Some, None}
use Rattle.std.specs.Option.{option_or}
use Rattle.octets.proofs.Numbers.{part-part}
use Rattle.refusal.specs.Outcome.{refused, done, ◌if◌}
use Rattle.refusal.proofs.Reasons.{passed, failed, pass, stop, clear-done, refused-first}
use Rattle.payload.specs.Payload.{payload_size}
use Rattle.config.specs.declared.Config.{Config}
use Rattle.config.specs.declared.Slot.{Slot}
use Rattle.config.specs.Config.{good, slots, slot_of_day, place, record_size, records_size}
use Rattle.protocol.specs.Update.{is_delivered}
use Rattle.record.specs.Record.{decoded, payload_at, payload_field}
use Rattle.calls.specs.Records.{record_at}
use Rattle.calls.specs.WellFormed.{slot_well_formed, all_well_formed}
use Rattle.calls.specs.Open.{open_reasons}
use Rattle.calls.specs.Day.{day_of}
use Rattle.calls.specs.Showing.{delivered_part}
use Rattle.calls.proofs.Refusals.{delivered-not, delivered-done}
use Rattle.setpoint.specs.Setpoint.{setpoint_in, is_setpoint, hundredths, value_in}
use Rattle.middle.specs.Middle.{lower_middle}
use Rattle.pool.specs.Pool.{delivered_setpoint, delivered_setpoints, latest, pooled, pool, setpoint_reasons, setpoint}

-- ---- a sender's records, one by one

-- no payload says no setpoint
pub none_said : setpoint_in [] ≡ []
unfolding setpoint_in is_setpoint
none_said = refl

module _ (config : Config) (records : List ℕ) (g : good config ≡ true) (sized : length records ≡ records_size config) (sender : ℕ) (s : sender < config.n) where
  module _ (seq : ℕ) (k : seq < slots) (formed : slot_well_formed config records sender seq ≡ true) where
    abbrev slot : Slot
    slot = slot_of_day config sender seq

    abbrev bytes : List ℕ
    bytes = record_at config slot records

    -- what showing gives of it is the payload of its record, if that is delivered
    shown : (m : Bool) → is_delivered (decoded bytes) ≡ m → delivered_part config slot records ≡ cond m (payload_field bytes) []
    unfolding delivered_part slot_of_day slot_well_formed record_at
    shown true d =
        rw (delivered-done config slot records g s k sized formed d)
        (sym (part-part payload_at payload_size (place config slot) record_size records (lit≤ tt)))
    shown false d = rw (delivered-not config slot records g s k sized formed d)

    pub slot-setpoint : delivered_setpoint config records sender seq ≡ cond (is_delivered (decoded bytes)) (setpoint_in (payload_field bytes)) []
    unfolding delivered_setpoint
    slot-setpoint = ap setpoint_in (shown (is_delivered (decoded bytes)) refl) ∙ go (is_delivered (decoded bytes))
      where
        go : (m : Bool) → setpoint_in (cond m (payload_field bytes) []) ≡ cond m (setpoint_in (payload_field bytes)) []
        go true = refl
        go false = none_said

-- the latest setpoint with one record more: the one in it, or else the one before
pub latest-next : (config : Config) (records : List ℕ) (sender seq : ℕ) (found known : Option ℤ) → delivered_setpoint config records sender seq ≡ value_in found
    → value_in known ≡ take 1 (delivered_setpoints config records sender seq)
    → value_in (option_or found known) ≡ take 1 (delivered_setpoints config records sender (seq + 1))
unfolding delivered_setpoints
latest-next config records sender seq (Some value) known is before = rw (add-one seq, is)
latest-next config records sender seq None known is before = rw (add-one seq, is) before

-- ---- the latest setpoint, and where it is delivered

module _ (config : Config) (records : List ℕ) (sender : ℕ) where
  -- a setpoint that comes first among those with numbers below a bound is delivered in one of these slots
  first-delivered : (bound : ℕ) (value : ℤ) → take 1 (delivered_setpoints config records sender bound) ≡ value ∷ []
      → (seq : ℕ) × (seq < bound) × (delivered_setpoint config records sender seq ≡ value ∷ [])
  unfolding delivered_setpoints delivered_setpoint setpoint_in
  first-delivered zero value e = absurd (let none : 0 ≡ 1 = ap length e in omega arith)
  first-delivered (suc seq) value e = go (is_setpoint (delivered_part config (slot_of_day config sender seq) records)) refl e (first-delivered seq value)
    where
      go : (m : Bool) → is_setpoint (delivered_part config (slot_of_day config sender seq) records) ≡ m
          → take 1 (cond m (hundredths (delivered_part config (slot_of_day config sender seq) records) ∷ []) [] ++ delivered_setpoints config records sender seq) ≡ value ∷ []
          → (take 1 (delivered_setpoints config records sender seq) ≡ value ∷ [] → (found : ℕ) × (found < seq) × (delivered_setpoint config records sender found ≡ value ∷ []))
          → (found : ℕ) × (found < suc seq) × (delivered_setpoint config records sender found ≡ value ∷ [])
      go true m e before = (seq, lt-suc_self seq, rw m e)
      go false m e before = let found = before e in (found.0, le_step found.1, found.2)

  pub latest-delivered : (value : ℤ) → latest config records sender ≡ value ∷ []
      → (seq : ℕ) × (seq < slots) × (delivered_setpoint config records sender seq ≡ value ∷ [])
  unfolding latest
  latest-delivered value e = first-delivered slots value e

  -- and where one is delivered there is a latest one
  delivered-some : (bound seq : ℕ) (value : ℤ) → seq < bound → delivered_setpoint config records sender seq ≡ value ∷ [] → 0 < length (delivered_setpoints config records sender bound)
  unfolding delivered_setpoints
  delivered-some zero seq value h is = absurd (omega arith)
  delivered-some (suc bound) seq value h is = go (ltb seq bound) refl (delivered-some bound seq value)
    where
      long : length (delivered_setpoint config records sender bound ++ delivered_setpoints config records sender bound) ≡ length (delivered_setpoint config records sender bound) + length (delivered_setpoints config records sender bound)
      long = length-append (delivered_setpoint config records sender bound) (delivered_setpoints config records sender bound)

      go : (m : Bool) → ltb seq bound ≡ m → (seq < bound → delivered_setpoint config records sender seq ≡ value ∷ [] → 0 < length (delivered_setpoints config records sender bound))
          → 0 < length (delivered_setpoint config records sender bound ++ delivered_setpoints config records sender bound)
      go true e before = let more = before (ltb-true seq bound e) is in omega (arith, long)
      go false e before =
          let last : seq ≡ bound = omega (arith, ltb-false seq bound e) in
          let one : length (delivered_setpoint config records sender bound) ≡ 1 = ap length (ap (delivered_setpoint config records sender) (sym last) ∙ is) in
          omega (arith, long)

  pub delivered-latest : (seq : ℕ) (value : ℤ) → seq < slots → delivered_setpoint config records sender seq ≡ value ∷ [] → 0 < length (latest config records sender)
  unfolding latest
  delivered-latest seq value h is = go (delivered_setpoints config records sender slots) (delivered-some slots seq value h is)
    where
      go : (xs : List ℤ) → 0 < length xs → 0 < length (take 1 xs)
      go [] some = some
      go (x ∷ xs) some = omega arith

-- ---- one sender more

-- the values before `count` are the pool of the senders so far, and stay so with one sender more: its latest setpoint is stored, if it has one
module _ (config : Config) (records : List ℕ) (sender count : ℕ) (values : List ℤ) (so_far : take count values ≡ pooled config records sender) where
  pub pooled-more : (value : ℤ) → count < length values → value ∷ [] ≡ latest config records sender
      → take (count + 1) (set values count value) ≡ pooled config records (sender + 1)
  unfolding pooled
  pooled-more value room is = rw (add-one count, add-one sender, take-suc-set values count value room, so_far, is)

  pub pooled-same : [] ≡ latest config records sender → take count values ≡ pooled config records (sender + 1)
  unfolding pooled
  pooled-same is = rw (add-one sender, ← is, append-nil) so_far

-- ---- the refusals

module _ (config : Config) (records : List ℕ) where
  -- what makes no day is what pooling refuses first
  pub setpoint-dayless : (number : ℕ) → refused number ≡ day_of config records → refused number ≡ setpoint config records
  unfolding setpoint setpoint_reasons day_of open_reasons
  setpoint-dayless number e =
      sym (refused-first ((21 if not (all_well_formed config records)) ∷ (27 if ltb (length (pool config records)) (2 * config.t + 1)) ∷ []) (config, records)
      (lower_middle (pool config records)) (open_reasons config records) number (sym e))

  pub setpoint-bad : good config ≡ false → setpoint config records ≡ refused 1
  unfolding setpoint setpoint_reasons
  setpoint-bad g = stop 1 _ _ (failed g)

  module _ (g : good config ≡ true) where
    pub setpoint-size : (length records ≡ records_size config → ⊥) → setpoint config records ≡ refused 20
    unfolding setpoint setpoint_reasons
    setpoint-size r = pass 1 _ _ (passed g) ∙ stop 20 _ _ (failed (ne_eqb _ _ r))

    module _ (r : length records ≡ records_size config) where
      pub setpoint-malformed : all_well_formed config records ≡ false → setpoint config records ≡ refused 21
      unfolding setpoint setpoint_reasons
      setpoint-malformed f = pass 1 _ _ (passed g) ∙ pass 20 _ _ (passed (eq-eqb _ _ r)) ∙ stop 21 _ _ (failed f)

      module _ (f : all_well_formed config records ≡ true) where
        pub setpoint-few : length (pool config records) ≤ 2 * config.t → setpoint config records ≡ refused 27
        unfolding setpoint setpoint_reasons
        setpoint-few h =
            pass 1 _ _ (passed g) ∙ pass 20 _ _ (passed (eq-eqb _ _ r)) ∙ pass 21 _ _ (passed f)
            ∙ stop 27 _ _ (lt-ltb (length (pool config records)) (2 * config.t + 1) (omega arith))

        pub setpoint-done : 2 * config.t < length (pool config records) → setpoint config records ≡ done (lower_middle (pool config records))
        unfolding setpoint setpoint_reasons
        setpoint-done h =
            clear-done (setpoint_reasons config records) (lower_middle (pool config records))
            (passed g, (passed (eq-eqb _ _ r), (passed f, (le-ltb (length (pool config records)) (2 * config.t + 1) (omega arith), tt))))
