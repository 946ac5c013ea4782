-- R10.3 and R10.4, as two statements about the definitions that the contracts of reading and writing cite.
-- They are proved in proofs/RoundTrip.antt. That the day fits 32 bits and that a bundle's elements are bytes is what the types
-- of the functions' arguments say.
-- Assumes nothing.
use Rattle.std.specs.Prelude.{◌≡◌, true, List, ℕ, ◌<◌, ◌^◌, length}
use Rattle.octets.specs.Octets.{Bytes}
use Rattle.refusal.specs.Outcome.{done}
use Rattle.config.specs.declared.Config.{Config}
use Rattle.config.specs.Config.{good}
use Rattle.bundle.specs.declared.Header.{Header}
use Rattle.bundle.specs.Bundle.{bundle_size, read, payload_part, header_of_day, write}

-- Two nodes that send each other bundles: the second's configuration is good and has the first's n and day. Own number, t, d and quorum may differ; of the
-- first's, that it wrote or accepted the bundle says that it is good.
pub record Peers (first second : Config) : Type 0 where
  pub configured : good second ≡ true
  pub nodes : second.n ≡ first.n
  pub today : second.day ≡ first.day

-- R10.3: what one node writes the other reads: the same header, and the same payload.
abbrev pub WrittenReadsBack : Type 0
WrittenReadsBack =
    (writer reader : Config) (sender seq signers : ℕ) (payload out bundle : List ℕ) → Peers writer reader → writer.day < 2 ^ 32
    → write writer sender seq signers payload out ≡ done bundle
    → (read reader bundle ≡ done (header_of_day writer sender seq signers)) × (payload_part reader bundle ≡ payload)

-- R10.4: a bundle that one node accepts the other writes again over 32 outgoing bytes, byte for byte.
abbrev pub AcceptedWritesBack : Type 0
AcceptedWritesBack =
    (reader writer : Config) (h : Header) (bundle out : List ℕ) → Peers reader writer → Bytes bundle → length out ≡ bundle_size
    → read reader bundle ≡ done h
    → write writer h.sender h.seq h.signers (payload_part reader bundle) out ≡ done bundle
