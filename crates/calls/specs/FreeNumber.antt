-- R7.2: what broadcasting finds among our sixteen records, said without the search that finds it: three laws of an answer, that each of the three decides
-- where broadcasting comes to search, and that one of them always holds. They are proved in proofs/FreeNumber.antt.
-- Assumes nothing.
use Rattle.std.specs.Prelude.{◌≡◌, ◌⊎◌, true, false, List, ℕ, ◌≤◌, ◌<◌}
use Rattle.octets.specs.Octets.{blank}
use Rattle.refusal.specs.Outcome.{refused, done, checked}
use Rattle.config.specs.declared.Config.{Config}
use Rattle.config.specs.Config.{slots}
use Rattle.record.specs.Record.{well_formed}
use Rattle.calls.specs.Records.{own_slot, record_at}
use Rattle.calls.specs.Broadcast.{broadcast_reasons, broadcast}

module _ (config : Config) (records : List ℕ) where
  -- our record with this number
  abbrev pub own_record : (seq : ℕ) → List ℕ
  own_record seq = record_at config (own_slot config seq) records

  -- it is well-formed and not empty: an empty record is all zero
  pub record Used (seq : ℕ) : Type 0 where
    pub formed : well_formed config config.own (own_record seq) ≡ true
    pub not_blank : blank (own_record seq) ≡ false

  -- the lowest of our numbers whose record is all zero, and every record before it is well-formed and not empty
  pub record LowestFree (seq : ℕ) : Type 0 where
    pub ours : seq < slots
    pub free : blank (own_record seq) ≡ true
    pub before : (k : ℕ) → k < seq → Used k

  -- a record of ours that is not well-formed, with none that is all zero before it
  pub record MalformedBeforeFree (seq : ℕ) : Type 0 where
    pub ours : seq < slots
    pub malformed : well_formed config config.own (own_record seq) ≡ false
    pub none_free : (k : ℕ) → k ≤ seq → blank (own_record k) ≡ false

  -- all sixteen are well-formed and none is empty
  abbrev pub AllUsed : Type 0
  AllUsed = (k : ℕ) → k < slots → Used k

-- The number answered is the lowest free one,
abbrev pub AnnouncedIsLowestFree : Type 0
AnnouncedIsLowestFree =
    (config : Config) (payload records out : List ℕ) (seq : ℕ) → broadcast config payload records out ≡ done seq → LowestFree config records seq

-- 21 means that one which is not well-formed stands before the first that is all zero, or among all sixteen if none is,
abbrev pub RefusedByMalformed : Type 0
RefusedByMalformed =
    (config : Config) (payload records out : List ℕ) → broadcast config payload records out ≡ refused 21 → (seq : ℕ) × MalformedBeforeFree config records seq

-- and 25 that all sixteen are in use.
abbrev pub RefusedByAllUsed : Type 0
RefusedByAllUsed = (config : Config) (payload records out : List ℕ) → broadcast config payload records out ≡ refused 25 → AllUsed config records

-- And back: where 1, 9, 10 and 20 do not apply, these decide the answer.
abbrev pub SearchDecides : Type 0
SearchDecides =
    (config : Config) (payload records out : List ℕ) → checked (broadcast_reasons config payload records out) ≡ done tt
    → ((seq : ℕ) → LowestFree config records seq → broadcast config payload records out ≡ done seq)
    × ((seq : ℕ) → MalformedBeforeFree config records seq → broadcast config payload records out ≡ refused 21)
    × (AllUsed config records → broadcast config payload records out ≡ refused 25)

-- One of the three holds of any records.
abbrev pub SearchEnds : Type 0
SearchEnds =
    (config : Config) (records : List ℕ)
    → ((seq : ℕ) × LowestFree config records seq) ⊎ ((seq : ℕ) × MalformedBeforeFree config records seq) ⊎ AllUsed config records
