-- R13.1, of the calls. The algorithm, the differences as functions and what it means to follow it (`Follows`, `SameState`, `on_broadcast`) are in
-- protocol's specs/Algorithm.antt; here they are said of the bytes that the calls' contracts give. Refusal 8 is the second half of line 3 (R13.6); days,
-- slot limits and the other refusals before 22 are not in the algorithm (R13.5). They are proved in proofs/Algorithm.antt.
-- Assumes nothing.
use Rattle.std.specs.Prelude.{◌≡◌, Bool, true, cond, List, [], ◌∷◌, ℕ, length}
use Rattle.refusal.specs.Outcome.{refused, done}
use Rattle.config.specs.declared.Config.{Config}
use Rattle.config.specs.declared.Slot.{Slot}
use Rattle.config.specs.Config.{least_quorum, good, quorum, in_range, records_size}
use Rattle.bundle.specs.declared.Header.{Header}
use Rattle.bundle.specs.Bundle.{bundle_size, bundle_of, header_in, payload_in, read, payload_part, slot_of}
use Rattle.protocol.specs.Update.{Record, Empty, sends, Update}
use Rattle.protocol.specs.Algorithm as algorithm
use Rattle.record.specs.Record.{decoded, well_formed}
use Rattle.calls.specs.Records.{own_slot, record_at}
use Rattle.calls.specs.Open.{open_records}
use Rattle.calls.specs.Broadcast.{announced_header, broadcast, broadcast_records, broadcast_out}
use Rattle.calls.specs.Receive.{record_bundle, receive, receive_records, receive_out}

-- what a node keeps of a slot
abbrev pub record_of : Config → Slot → (records : List ℕ) → Record
record_of config slot records = decoded (record_at config slot records)

-- what the algorithm does with a bundle, by its bytes, with the configuration's quorum in line 9 (R13.8)
abbrev pub on_bytes : Config → (bundle : List ℕ) → algorithm.State → algorithm.Run
on_bytes config bundle σ =
    algorithm.on_bundle config.own (algorithm.at_least (quorum config)) (header_in bundle).sender (payload_in bundle) (header_in bundle).signers σ

-- R13.8: line 9 then does what the article's does, or waits: more than (n + t)/2 have signed, and fewer than the quorum.
abbrev pub StricterQuorumWaits : Type 0
StricterQuorumWaits =
    (config : Config) (sender : ℕ) (m : List ℕ) (σ : algorithm.State) → good config ≡ true
    → algorithm.SameOrWaits config.own config.n config.t (quorum config) sender m σ

-- R6.1, R13.1: opening starts every slot as the algorithm starts: nothing saved, signed or delivered.
abbrev pub OpenStarts : Type 0
OpenStarts =
    (config : Config) (records : List ℕ) (slot : Slot) → good config ≡ true → length records ≡ records_size config → in_range config slot ≡ true
    → record_of config slot (open_records config records) ≡ Empty

-- R13.1, lines 1 and 2: a broadcast that is not refused is in a slot of ours of which we kept nothing. The record stored is the algorithm's state after
-- mbrb_broadcast, and the bytes sent are the bundle that it broadcasts.
abbrev pub BroadcastFollows : Type 0
BroadcastFollows =
    (config : Config) (payload records out : List ℕ) (seq : ℕ) → broadcast config payload records out ≡ done seq
    → (record_of config (own_slot config seq) records ≡ Empty)
    × algorithm.SameState
    (algorithm.state_of (record_of config (own_slot config seq) (broadcast_records config payload records out)))
    (algorithm.on_broadcast config.own payload (algorithm.state_of Empty)).state
    × ((algorithm.on_broadcast config.own payload (algorithm.state_of Empty)).effects
    ≡ algorithm.broadcast (announced_header config seq).signers payload ∷ [])
    × (broadcast_out config payload records out ≡ bundle_of (announced_header config seq) payload)

-- R13.6: a bundle that reading refuses by 8 lacks its sender's signature, and the algorithm does nothing with it, whatever its state.
abbrev pub UnsignedFollows : Type 0
UnsignedFollows =
    (config : Config) (bundle records out : List ℕ) (σ : algorithm.State) → read config bundle ≡ refused 8
    → (receive config bundle records out ≡ refused 8)
    × algorithm.SameState (on_bytes config bundle σ).state σ
    × ((on_bytes config bundle σ).effects ≡ [])

-- lines 3 to 13, with this test in line 9: a receive that passes reading (1 to 8) and 10, 20 and 21 follows the algorithm: done, or refused by 22, 23 or 24. Where
-- it is done, the record stored is the one of the update, and the bytes sent are the update's bundle, if it sends.
abbrev pub ReceiveFollowsBy : Config → (enough : ℕ → Bool) → Type 0
ReceiveFollowsBy config enough =
    (bundle records out : List ℕ) (h : Header)
    → read config bundle ≡ done h → length out ≡ bundle_size → length records ≡ records_size config
    → well_formed config h.sender (record_at config (slot_of h) records) ≡ true
    → algorithm.Follows config.own enough h.sender h.signers (payload_part config bundle) (record_of config (slot_of h) records)
    (receive config bundle records out)
    × ((result : Update) → receive config bundle records out ≡ done result
    → (record_of config (slot_of h) (receive_records config bundle records out) ≡ result.new_record)
    × (receive_out config bundle records out ≡ cond (sends result.answer) (record_bundle (slot_of h) result.new_record) out))

-- R13.1: receiving follows the algorithm with the configuration's quorum in line 9.
abbrev pub ReceiveFollows : Type 0
ReceiveFollows = (config : Config) → ReceiveFollowsBy config (algorithm.at_least (quorum config))

-- R13.7: with the least quorum it follows the article's, whose line 9 asks for strictly more than (n + t)/2 signatures.
abbrev pub LeastQuorumFollowsArticle : Type 0
LeastQuorumFollowsArticle =
    (config : Config) → quorum config ≡ least_quorum config.n config.t → ReceiveFollowsBy config (algorithm.more_than_half config.n config.t)
