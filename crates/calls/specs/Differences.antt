-- How receiving differs from Algorithm 1 (R13.3, R13.4), each difference a law of the call. protocol's specs/Differences.antt has them on values, and
-- system's those of a whole list of calls. They are proved in proofs/Differences.antt.
-- Assumes nothing.
use Rattle.std.specs.Prelude.{◌≡◌, ◌⊎◌, true, List, [], ◌∷◌, ℕ, ◌≤◌, ◌<◌}
use Rattle.signers.specs.Signers.{insert, union, size}
use Rattle.refusal.specs.Outcome.{done}
use Rattle.config.specs.declared.Config.{Config}
use Rattle.config.specs.Config.{quorum}
use Rattle.bundle.specs.declared.Header.{Header}
use Rattle.bundle.specs.Bundle.{read, payload_part, slot_of}
use Rattle.protocol.specs.Update.{Nothing, Noted, Empty, Delivered, signers_of, payload_of, note_of, holds_other, noted_signers, with_note, Update, delivered, noted, delivers}
use Rattle.protocol.specs.Algorithm as algorithm
use Rattle.calls.specs.Receive.{record_bundle, receive, receive_out}
use Rattle.calls.specs.Algorithm.{record_of, on_bytes}

-- A bundle that reading accepts, and a receive of it that is not refused.
module _ (config : Config) (bundle records out : List ℕ) (h : Header) (result : Update) where
  pub record AnsweredReceive : Type 0 where
    pub accepted : read config bundle ≡ done h
    pub answered : receive config bundle records out ≡ done result

-- R8.4, R8.16, R13.3: where the record holds another payload, this bundle alone brings a quorum. Its payload is delivered, the record has its signers and no
-- others, and what was held is noted. R8.14: or it has no quorum and is noted, and the rest of the record stays.
abbrev pub OtherNeedsQuorum : Type 0
OtherNeedsQuorum =
    (config : Config) (bundle records out : List ℕ) (h : Header) (result : Update) → AnsweredReceive config bundle records out h result
    → holds_other (record_of config (slot_of h) records) (payload_part config bundle) ≡ true
    → ((quorum config ≤ size h.signers)
    × (result
    ≡ record {
      answer = delivered;
      new_record =
          Delivered h.signers (payload_part config bundle)
          (Noted (signers_of (record_of config (slot_of h) records)) (payload_of (record_of config (slot_of h) records)));
    }))
    ⊎ ((size h.signers < quorum config)
    × (result
    ≡ record {
      answer = noted;
      new_record =
          with_note (Noted (union (noted_signers (note_of (record_of config (slot_of h) records))) h.signers) (payload_part config bundle))
          (record_of config (slot_of h) records);
    }))

-- R13.4: where the record is empty and the bundle is delivered, so that it is signed in the same step, the outgoing bytes are one bundle, with our signature
-- in it. The algorithm sends that bundle twice.
abbrev pub OneBundleForBoth : Type 0
OneBundleForBoth =
    (config : Config) (bundle records out : List ℕ) (h : Header) (result : Update) → AnsweredReceive config bundle records out h result
    → record_of config (slot_of h) records ≡ Empty → delivers result.answer ≡ true
    → (receive_out config bundle records out ≡ record_bundle (slot_of h) (Delivered (insert h.signers config.own) (payload_part config bundle) Nothing))
    × ((on_bytes config bundle (algorithm.state_of Empty)).effects
    ≡ algorithm.broadcast (insert h.signers config.own) (payload_part config bundle)
    ∷ algorithm.broadcast (insert h.signers config.own) (payload_part config bundle)
    ∷ algorithm.deliver (payload_part config bundle)
    ∷ [])
