-- A bundle that a node puts together is accepted by reading at every node of its day, and its fields are read back. From the round trip of bundles.
-- Assumes nothing.
use mathlib.Core.Path.{◌≡◌, refl, ap}
use mathlib.Core.Bool.{true, not}
use mathlib.Core.List.{List}
use Prim.Native.Nat.{ℕ, ◌<◌, ◌^◌}
use lib.ListN.{replicate}
use borrow.Author.Tests.{lt-ltb}
use Rattle.refusal.specs.Outcome.{done}
use Rattle.refusal.proofs.Reasons.{Clear}
use Rattle.config.specs.declared.Config.{Config}
use Rattle.config.specs.Config.{good, in_range, slot_of_day}
use Rattle.bundle.specs.declared.Header.{Header}
use Rattle.bundle.specs.Bundle.{bundle_of, header_reasons, read, bundle_size, payload_part, header_of_day, slot_of}
use Rattle.bundle.proofs.Accepted.{writable-written}
use Rattle.bundle.proofs.RoundTrip.{written-reads-back}
use Rattle.protocol.proofs.WellFormed.{Bundled}
use Rattle.bundle.proofs.Example.{payload}
use Rattle.config.proofs.Laws.{range-says}

clear-header : (config : Config) (h : Header) (payload : List ℕ) → in_range config (slot_of h) ≡ true → Bundled config.n h.sender h.signers payload
    → Clear (header_reasons config h)
unfolding header_reasons
clear-header config h payload range b =
    let (known, below) = range-says config (slot_of h) range in
    (ap not (lt-ltb _ _ known), (ap not (lt-ltb _ _ below), (ap not b.known, (ap not b.authentic, tt))))

pub sent-reads : (config : Config) (sender seq signers : ℕ) (payload : List ℕ) → good config ≡ true → config.day < 2 ^ 32
    → in_range config (slot_of_day config sender seq) ≡ true → Bundled config.n sender signers payload
    → (read config (bundle_of (header_of_day config sender seq signers) payload) ≡ done (header_of_day config sender seq signers))
    × (payload_part config (bundle_of (header_of_day config sender seq signers) payload) ≡ payload)
unfolding slot_of_day
sent-reads config sender seq signers payload g dated range b =
    let h : Header = header_of_day config sender seq signers in
    written-reads-back config config sender seq signers payload (replicate bundle_size 0) (bundle_of h payload)
    (record { configured = g; nodes = refl; today = refl })
    dated
    (writable-written config sender seq signers payload (replicate bundle_size 0)
    (record { configured = g; clear = clear-header config h payload range b; whole = b.whole; room = refl }))
