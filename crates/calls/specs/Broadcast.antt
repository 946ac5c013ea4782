-- RULES section 7: broadcasting, called announcing in the formats. The payload goes into the first of our records that is empty, as held and signed by us
-- alone, and its bundle to the outgoing bytes (R7.3). Nothing is delivered by it (R7.4).
-- Assumes nothing.
use Rattle.std.specs.Prelude.{◌≡◌, not, cond, List, [], ◌∷◌, ℕ, zero, suc, ◌<◌, eqb, length, Result, Ok, Err}
use Rattle.octets.specs.Octets.{blank}
use Rattle.signers.specs.Signers as signers
use Rattle.signers.specs.Signers.{insert}
use Rattle.refusal.specs.Refusal.{outcome_of}
use Rattle.refusal.specs.declared.Refusal.{Refusal}
use Rattle.refusal.specs.Outcome.{Outcome, refused, done, Reason, ◌if◌, after, checked, ◌and_then◌}
use Rattle.payload.specs.Payload.{payload_size}
use Rattle.config.specs.declared.Config.{Config}
use Rattle.config.specs.Config.{good, slots}
use Rattle.bundle.specs.declared.Header.{Header}
use Rattle.bundle.specs.Bundle.{bundle_size, bundle_of, header_of_day}
use Rattle.protocol.specs.Update.{signers_of, announced_by}
use Rattle.record.specs.Record.{encoding, well_formed}
use Rattle.calls.specs.Records.{own_slot, record_at, stored, wrong_size}

-- R7.2: the search looks at the record of number `seq`, the first of `left` that are left, and then at those after it. An empty record is all zero;
-- 21 is for a malformed one that no empty one comes before, and 25 where all are well-formed and none is empty.
unfoldable pub search : Config → (records : List ℕ) (seq left : ℕ) → Outcome ℕ
search config records seq zero = refused 25
search config records seq (suc left) =
    cond (blank (record_at config (own_slot config seq) records)) (done seq)
    (cond (well_formed config config.own (record_at config (own_slot config seq) records)) (search config records (suc seq) left) (refused 21))

-- the header of a broadcast's bundle: our bit alone
abbrev pub announced_header : Config → (seq : ℕ) → Header
announced_header config seq = header_of_day config config.own seq (insert 0 config.own)

module _ (config : Config) (payload records out : List ℕ) where
  -- R7.1: what is tested before the search, which has 21 and 25
  unfoldable pub broadcast_reasons : List Reason
  broadcast_reasons =
      (1 if not (good config))
      ∷ (9 if not (eqb (length payload) payload_size))
      ∷ (10 if not (eqb (length out) bundle_size))
      ∷ (20 if wrong_size config records)
      ∷ []

  -- R7.3: the answer is the sequence number
  unfoldable pub broadcast : Outcome ℕ
  broadcast = checked broadcast_reasons and_then (λ _. search config records 0 slots)

  unfoldable pub broadcast_records : List ℕ
  broadcast_records = after broadcast (λ seq. stored config (own_slot config seq) (encoding (announced_by config.own payload)) records) records

  unfoldable pub broadcast_out : List ℕ
  broadcast_out = after broadcast (λ seq. bundle_of (announced_header config seq) payload) out

-- the number and values of each case (R17.3)
abbrev pub announcement_of : Result ℕ Refusal → Outcome ℕ
announcement_of announcement = outcome_of (λ seq. seq) announcement

-- the count that goes with the answer: 1 (R7.3), and 0 with a refusal (R5.1)
abbrev pub announcement_count : Result ℕ Refusal → ℕ
announcement_count (Ok seq) = 1
announcement_count (Err reason) = 0

-- as in a receipt (R8.8), it is how many signers the record stored has
abbrev pub AnnouncedCounts : Type 0
AnnouncedCounts = (own seq : ℕ) (payload : List ℕ) → own < 64 → announcement_count (Ok seq) ≡ signers.size (signers_of (announced_by own payload))
