-- RULES section 9: showing gives the payload that was delivered in a slot as the part of the records where it stands; where it refuses, the empty part at their
-- start.
-- Assumes nothing.
use Rattle.std.specs.Prelude.{not, List, [], ◌∷◌, ℕ, ◌+◌, ltb}
use Rattle.octets.specs.Octets.{part}
use Rattle.refusal.specs.Outcome.{Outcome, Reason, ◌if◌, unless, after}
use Rattle.payload.specs.Payload.{payload_size}
use Rattle.config.specs.declared.Config.{Config}
use Rattle.config.specs.declared.Slot.{Slot}
use Rattle.config.specs.Config.{good, slots, place}
use Rattle.protocol.specs.Update.{is_delivered}
use Rattle.record.specs.Record.{well_formed, decoded, payload_at}
use Rattle.calls.specs.Records.{record_at, wrong_size}

module _ (config : Config) (slot : Slot) (records : List ℕ) where
  -- R9.1: what it tests
  unfoldable pub delivered_reasons : List Reason
  delivered_reasons =
      (1 if not (good config))
      ∷ (5 if not (ltb slot.sender config.n))
      ∷ (6 if not (ltb slot.seq slots))
      ∷ (20 if wrong_size config records)
      ∷ (21 if not (well_formed config slot.sender (record_at config slot records)))
      ∷ (26 if not (is_delivered (decoded (record_at config slot records))))
      ∷ []

  -- R9.2: it gives the place of the payload
  unfoldable pub delivered : Outcome ℕ
  delivered = unless delivered_reasons (place config slot + payload_at)

  unfoldable pub delivered_part : List ℕ
  delivered_part = after delivered (λ start. part start payload_size records) []

  unfoldable pub delivered_place : ℕ
  delivered_place = after delivered (λ start. start) 0
