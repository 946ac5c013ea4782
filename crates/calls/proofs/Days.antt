-- A day for reading: why none is made, and that each record of it lies within its bytes.
-- Assumes nothing.
use mathlib.Core.Path.{◌≡◌, refl, sym, ap, ap₂, ◌∙◌}
use mathlib.Core.Bool.{Bool, true, false}
use mathlib.Core.List.{List}
use Prim.Native.Nat.{ℕ, ◌+◌, ◌≤◌, ◌<◌}
use native.Mathlib.Omega.{arith}
use lib.Dec.{eqb}
use lib.ListN.{length}
use borrow.Author.Tests.{eq-eqb, ne_eqb, lt-ltb, le-ltb, eqb-true, eqb-false, not-false}
use Rattle.refusal.specs.Outcome.{Outcome, refused, done}
use Rattle.refusal.proofs.Reasons.{passed, failed, pass, stop, clear-done, done-clear, refused-not-done}
use Rattle.config.specs.declared.Config.{Config}
use Rattle.config.specs.Config.{good, slots, slot_of_day, in_range, slot_place, place, record_size, records_size}
use Rattle.config.proofs.Laws.{in-range, place-slot}
use Rattle.calls.specs.Open.{open_reasons}
use Rattle.record.specs.Record.{well_formed}
use Rattle.calls.specs.Records.{record_at}
use Rattle.calls.specs.WellFormed.{slot_well_formed, all_well_formed}
use Rattle.calls.specs.Day.{day_of, slot_reasons, slot_record}
use Rattle.calls.proofs.Records.{place-fits}

module _ (config : Config) (records : List ℕ) where
  pub day-bad : good config ≡ false → day_of config records ≡ refused 1
  unfolding day_of open_reasons
  day-bad g = stop 1 _ _ (failed g)

  pub day-size : good config ≡ true → (length records ≡ records_size config → ⊥) → day_of config records ≡ refused 20
  unfolding day_of open_reasons
  day-size g l = pass 1 _ _ (passed g) ∙ stop 20 _ _ (failed (ne_eqb _ _ l))

  pub day-done : good config ≡ true → length records ≡ records_size config → day_of config records ≡ done (config, records)
  unfolding day_of open_reasons
  day-done g l = clear-done (open_reasons config records) (config, records) (passed g, (passed (eq-eqb _ _ l), tt))

  -- a day that is made has the configuration and the bytes given, which fit together
  pub record Made (day : Config × List ℕ) : Type 0 where
    pub config_is : day.0 ≡ config
    pub records_is : day.1 ≡ records
    pub config_good : good config ≡ true
    pub records_whole : length records ≡ records_size config

  pub day-made : (day : Config × List ℕ) → done day ≡ day_of config records → Made day
  unfolding day_of open_reasons
  day-made day e =
      let (clear, same) = done-clear (open_reasons config records) (config, records) day (sym e) in
      record {
        config_is = sym (ap (λ (d : Config × List ℕ). d.0) same);
        records_is = sym (ap (λ (d : Config × List ℕ). d.1) same);
        config_good = not-false _ clear.0;
        records_whole = eqb-true _ _ (not-false _ clear.1.0);
      }

  -- its records are well-formed where those given are,
  pub made-formed : (day : Config × List ℕ) → Made day → all_well_formed config records ≡ all_well_formed day.0 day.1
  made-formed day m = sym (ap₂ all_well_formed m.config_is m.records_is)

  -- and where the configuration is good, what makes none is the length
  pub day-length : good config ≡ true → (number : ℕ) → refused number ≡ day_of config records → (number ≡ 20) × (length records ≡ records_size config → ⊥)
  unfolding day_of open_reasons
  day-length g number e = go (eqb (length records) (records_size config)) refl
    where
      go : (b : Bool) → eqb (length records) (records_size config) ≡ b → (number ≡ 20) × (length records ≡ records_size config → ⊥)
      go true l = absurd (refused-not-done number (config, records) (e ∙ day-done g (eqb-true _ _ l)))
      go false l =
          let wrong = eqb-false _ _ l in
          let same : ◌≡◌ {A = Outcome (Config × List ℕ)} (refused number) (refused 20) = e ∙ day-size g wrong in
          (cc, wrong)

-- the record of a slot in range lies within the bytes of a day, and is the one at the slot's place
module _ (config : Config) (records : List ℕ) (sender seq : ℕ) (g : good config ≡ true) (l : length records ≡ records_size config) (s : sender < config.n) (k : seq < slots) where
  range : in_range config (slot_of_day config sender seq) ≡ true
  unfolding slot_of_day
  range = in-range config (slot_of_day config sender seq) s k

  pub place_known : slot_place (slot_of_day config sender seq) ≡ place config (slot_of_day config sender seq)
  place_known = sym (place-slot config (slot_of_day config sender seq) g range)

  pub room : slot_place (slot_of_day config sender seq) + record_size ≤ length records
  room = let fits = place-fits config g records l (slot_of_day config sender seq) range in let at = place_known in omega arith

-- what is loaded from a slot is well-formed where the slot's record is
pub loaded-formed : (config : Config) (records : List ℕ) (sender seq : ℕ) (bytes : List ℕ) → bytes ≡ record_at config (slot_of_day config sender seq) records
    → well_formed config sender bytes ≡ slot_well_formed config records sender seq
unfolding slot_well_formed
loaded-formed config records sender seq bytes loaded = ap (well_formed config sender) loaded

-- ---- what is tested of a slot

module _ (config : Config) (records : List ℕ) (sender seq : ℕ) where
  pub slot-sender : config.n ≤ sender → slot_record config records sender seq ≡ refused 5
  unfolding slot_record slot_reasons
  slot-sender s = stop 5 _ _ (failed (le-ltb sender config.n s))

  module _ (s : sender < config.n) where
    pub slot-seq : slots ≤ seq → slot_record config records sender seq ≡ refused 6
    unfolding slot_record slot_reasons
    slot-seq k = pass 5 _ _ (passed (lt-ltb sender config.n s)) ∙ stop 6 _ _ (failed (le-ltb seq slots k))

    module _ (k : seq < slots) where
      pub slot-malformed : slot_well_formed config records sender seq ≡ false → slot_record config records sender seq ≡ refused 21
      unfolding slot_record slot_reasons
      slot-malformed f = pass 5 _ _ (passed (lt-ltb sender config.n s)) ∙ (pass 6 _ _ (passed (lt-ltb seq slots k)) ∙ stop 21 _ _ (failed f))

      pub slot-done : slot_well_formed config records sender seq ≡ true
          → slot_record config records sender seq ≡ done (record_at config (slot_of_day config sender seq) records)
      unfolding slot_record slot_reasons
      slot-done f =
          clear-done (slot_reasons config records sender seq) (record_at config (slot_of_day config sender seq) records)
          (passed (lt-ltb sender config.n s), (passed (lt-ltb seq slots k), (passed f, tt)))

      -- of a slot in range nothing else is refused
      pub slot-refused : (number : ℕ) → refused number ≡ slot_record config records sender seq
          → (slot_well_formed config records sender seq ≡ false) × (number ≡ 21)
      slot-refused number e = go (slot_well_formed config records sender seq) refl
        where
          go : (b : Bool) → slot_well_formed config records sender seq ≡ b → (b ≡ false) × (number ≡ 21)
          go true f = absurd (refused-not-done number (record_at config (slot_of_day config sender seq) records) (e ∙ slot-done f))
          go false f = let same : ◌≡◌ {A = Outcome (List ℕ)} (refused number) (refused 21) = e ∙ slot-malformed f in (refl, cc)

  -- a record that is given
  pub slot-given : (bytes : List ℕ) → done bytes ≡ slot_record config records sender seq
      → (slot_well_formed config records sender seq ≡ true) × (bytes ≡ record_at config (slot_of_day config sender seq) records)
  unfolding slot_record slot_reasons
  slot-given bytes e =
      let (clear, same) = done-clear (slot_reasons config records sender seq) (record_at config (slot_of_day config sender seq) records) bytes (sym e) in
      (not-false _ clear.1.1.0, sym same)
