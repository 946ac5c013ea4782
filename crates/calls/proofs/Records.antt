-- The record buffer: what is stored in one slot is read back there, and every other slot, and every byte outside the record, stays as it was.
-- From the definitions of specs/Records.antt, for a good configuration, slots in range and a buffer of the right size.
-- Assumes nothing.
use mathlib.Core.Path.{◌≡◌, refl, sym, ap, ◌∙◌, subst}
use mathlib.Core.Bool.{Bool, true, false}
use mathlib.Core.List.{List, ◌++◌}
use mathlib.Core.Logic.{◌⊎◌, inl, inr}
use Prim.Native.Nat.{ℕ, ◌+◌, ◌-◌, ◌*◌, ◌≤◌, ◌<◌}
use native.Mathlib.Omega.{arith}
use lib.Dec.{ltb}
use lib.ListN.{length, get_or, take, drop, replicate, length-append, length-drop, length-replicate, get_or-replicate, get_or-append}
use lib.Seq.{ext_get_or, get_or-take, get_or-drop, get_or-append-add, length-take-le}
use borrow.Author.Tests.{ltb-true, ltb-false}
use Rattle.octets.specs.Octets.{part}
use Rattle.octets.proofs.Numbers.{length_part}
use Rattle.config.specs.declared.Config.{Config}
use Rattle.config.specs.Config.{good, slots, in_range, slot_place, place, record_size, records_size}
use Rattle.config.specs.declared.Slot.{Slot}
use Rattle.config.proofs.Laws.{place_is, place-room, range-says}
use Rattle.protocol.proofs.ComputedTests.{each-passes}
use Rattle.calls.specs.Records.{record_at, replaced, stored}
use Rattle.calls.specs.WellFormed.{slot_well_formed, sender_well_formed, all_well_formed}

-- a part of a list with other bytes at another place
module _ (xs bytes : List ℕ) (at k : ℕ) (long : length bytes ≡ k) (room : at + k ≤ length xs) where
  pasted : List ℕ
  pasted = take at xs ++ (bytes ++ drop (at + k) xs)

  front : length (take at xs) ≡ at
  front = length-take-le at xs (omega arith)

  pasted_length : length pasted ≡ length xs
  unfolding pasted
  pasted_length = simp (length-append, front, length-drop) (omega arith)

  -- before the place,
  pasted-before : (i : ℕ) → i < at → get_or pasted i 0 ≡ get_or xs i 0
  unfolding pasted
  pasted-before i h =
      get_or-append (take at xs) (bytes ++ drop (at + k) xs) 0 i (omega (arith, front)) ∙ get_or-take at xs i 0 h

  -- at the place,
  pasted-there : (i : ℕ) → i < k → get_or pasted (at + i) 0 ≡ get_or bytes i 0
  unfolding pasted
  pasted-there i h =
      ap (λ (j : ℕ). get_or pasted (j + i) 0) (sym front) ∙ get_or-append-add (take at xs) (bytes ++ drop (at + k) xs) i 0
      ∙ get_or-append bytes (drop (at + k) xs) 0 i (omega arith)

  -- and after it
  pasted-after : (i : ℕ) → get_or pasted (at + k + i) 0 ≡ get_or xs (at + k + i) 0
  unfolding pasted
  pasted-after i =
      let e : at + k + i ≡ length (take at xs) + (length bytes + i) = omega (arith, front) in
      ap (λ (j : ℕ). get_or pasted j 0) e
      ∙ get_or-append-add (take at xs) (bytes ++ drop (at + k) xs) (length bytes + i) 0
      ∙ get_or-append-add bytes (drop (at + k) xs) i 0
      ∙ get_or-drop (at + k) xs i 0

  -- every element outside the place
  pasted-outside : (i : ℕ) → (i < at) ⊎ (at + k ≤ i) → get_or pasted i 0 ≡ get_or xs i 0
  pasted-outside i (inl h) = pasted-before i h
  pasted-outside i (inr h) =
      let e : at + k + (i - (at + k)) ≡ i = omega arith in
      subst (λ (j : ℕ). get_or pasted j 0 ≡ get_or xs j 0) e (pasted-after (i - (at + k)))

  -- the elements of a part
  part_same : (j m : ℕ) (ys : List ℕ) → j + m ≤ length xs → length ys ≡ m → ((i : ℕ) → i < m → get_or pasted (j + i) 0 ≡ get_or ys i 0) → part j m pasted ≡ ys
  part_same j m ys fit l h =
      let whole : length (part j m pasted) ≡ m = length_part pasted j m (omega (arith, pasted_length)) in
      ext_get_or 0 (part j m pasted) ys (whole ∙ sym l)
      (λ i small. get_or-take m (drop j pasted) i 0 (omega arith) ∙ get_or-drop j pasted i 0 ∙ h i (omega arith))

  pub paste-part : part at k (take at xs ++ (bytes ++ drop (at + k) xs)) ≡ bytes
  unfolding pasted
  paste-part = part_same at k bytes room long pasted-there

  pub paste-other : (j m : ℕ) → j + m ≤ length xs → (j + m ≤ at) ⊎ (at + k ≤ j) → part j m (take at xs ++ (bytes ++ drop (at + k) xs)) ≡ part j m xs
  unfolding pasted
  paste-other j m fit apart =
      part_same j m (part j m xs) fit (length_part xs j m fit)
      (λ i small. pasted-outside (j + i) (side i small apart) ∙ sym (get_or-take m (drop j xs) i 0 small ∙ get_or-drop j xs i 0))
    where
      side : (i : ℕ) → i < m → (j + m ≤ at) ⊎ (at + k ≤ j) → (j + i < at) ⊎ (at + k ≤ j + i)
      side i small (inl h) = inl (omega arith)
      side i small (inr h) = inr (omega arith)

-- a slot in range lies within the buffer
module _ (config : Config) (g : good config ≡ true) (records : List ℕ) (size : length records ≡ records_size config) where
  pub place-fits : (slot : Slot) → in_range config slot ≡ true → place config slot + record_size ≤ length records
  place-fits slot range = rw size (place-room config slot g range)

  pub record_at-length : (slot : Slot) → in_range config slot ≡ true → length (record_at config slot records) ≡ record_size
  unfolding record_at
  record_at-length slot range = length_part records (place config slot) record_size (place-fits slot range)

  module _ (slot : Slot) (range : in_range config slot ≡ true) (bytes : List ℕ) (long : length bytes ≡ record_size) where
    -- storing leaves the size,
    pub stored-length : length (stored config slot bytes records) ≡ length records
    unfolding stored replaced pasted
    stored-length = pasted_length records bytes (place config slot) record_size long (place-fits slot range)

    -- is read back in its slot,
    pub stored_there : record_at config slot (stored config slot bytes records) ≡ bytes
    unfolding stored replaced record_at
    stored_there = paste-part records bytes (place config slot) record_size long (place-fits slot range)

    -- leaves every byte outside the record,
    pub stored-outside : (i : ℕ) → (i < place config slot) ⊎ (place config slot + record_size ≤ i)
        → get_or (stored config slot bytes records) i 0 ≡ get_or records i 0
    unfolding stored replaced pasted
    stored-outside i apart = pasted-outside records bytes (place config slot) record_size long (place-fits slot range) i apart

    -- and every other slot
    pub stored-elsewhere : (other : Slot) → in_range config other ≡ true → (other.sender ≡ slot.sender → other.seq ≡ slot.seq → ⊥)
        → record_at config other (stored config slot bytes records) ≡ record_at config other records
    unfolding stored replaced record_at
    stored-elsewhere other within differ =
        paste-other records bytes (place config slot) record_size long (place-fits slot range) (place config other) record_size (place-fits other within)
        (apart (ltb other.sender slot.sender) (ltb slot.sender other.sender) (ltb other.seq slot.seq) (ltb slot.seq other.seq) refl refl refl refl)
      where
        here : (place config slot ≡ record_size * (slots * slot.sender + slot.seq)) × (slot.seq < slots)
        here = (place_is config slot g range, (range-says config slot range).1)

        there : (place config other ≡ record_size * (slots * other.sender + other.seq)) × (other.seq < slots)
        there = (place_is config other g within, (range-says config other within).1)

        apart : (a b c d : Bool) → ltb other.sender slot.sender ≡ a → ltb slot.sender other.sender ≡ b
            → ltb other.seq slot.seq ≡ c → ltb slot.seq other.seq ≡ d
            → (place config other + record_size ≤ place config slot) ⊎ (place config slot + record_size ≤ place config other)
        apart true b c d ea eb ec ed = inl (omega (arith, ltb-true other.sender slot.sender ea, here.0, here.1, there.0, there.1))
        apart false true c d ea eb ec ed = inr (omega (arith, ltb-true slot.sender other.sender eb, here.0, here.1, there.0, there.1))
        apart false false true d ea eb ec ed =
            inl (omega (arith, ltb-false other.sender slot.sender ea, ltb-false slot.sender other.sender eb, ltb-true other.seq slot.seq ec, here.0, there.0))
        apart false false false true ea eb ec ed =
            inr (omega (arith, ltb-false other.sender slot.sender ea, ltb-false slot.sender other.sender eb, ltb-true slot.seq other.seq ed, here.0, there.0))
        apart false false false false ea eb ec ed =
            absurd (differ (omega (arith, ltb-false other.sender slot.sender ea, ltb-false slot.sender other.sender eb)) (omega (arith, ltb-false other.seq slot.seq ec, ltb-false slot.seq other.seq ed)))

-- slots of one sender and number have one record among those of a day
pub same_place : (config : Config) (first second : Slot) → first.sender ≡ second.sender → first.seq ≡ second.seq
    → (records : List ℕ) → record_at config first records ≡ record_at config second records
unfolding record_at place slot_place in_range
same_place config first second s k records = rw (s, k)

-- in a buffer of zeros every record is zeros
pub zeros-at : (config : Config) (slot : Slot) → good config ≡ true → in_range config slot ≡ true
    → record_at config slot (replicate (records_size config) 0) ≡ replicate record_size 0
unfolding record_at
zeros-at config slot g range =
    let zeros : List ℕ = replicate (records_size config) 0 in
    let size : length zeros ≡ records_size config = length-replicate {A = ℕ} (records_size config) 0 in
    let at : ℕ = place config slot in
    let fit : at + record_size ≤ records_size config = place-room config slot g range in
    let long = length_part zeros at record_size (omega arith) in
    ext_get_or 0 (part at record_size zeros) (replicate record_size 0) long
    (λ i small.
    get_or-take record_size (drop at zeros) i 0 (omega arith)
    ∙ get_or-drop at zeros i 0
    ∙ get_or-replicate (records_size config) (at + i) 0 0 (omega arith)
    ∙ sym (get_or-replicate record_size i 0 0 (omega arith)))

-- all records are well-formed where each is
pub all-well-formed : (config : Config) (records : List ℕ) → ((sender seq : ℕ) → sender < config.n → seq < slots → slot_well_formed config records sender seq ≡ true)
    → all_well_formed config records ≡ true
unfolding all_well_formed sender_well_formed
all-well-formed config records one = each-passes config.n _ (λ sender s. each-passes slots _ (λ seq k. one sender seq s k))
