-- Two differences from Algorithm 1, R13.2 and R13.3, as laws of a whole list of calls. calls' specs/Differences.antt has laws of one call. They are proved in
-- proofs/Differences.antt.
-- Assumes nothing.
use Rattle.std.specs.Prelude.{◌≡◌, Bool, true, false, ◌&&◌, List, ℕ, ◌<◌, leb}
use Rattle.signers.specs.Signers.{size}
use Rattle.config.specs.declared.Slot.{Slot}
use Rattle.config.specs.Config.{quorum, slot_of_day, in_range}
use Rattle.bundle.specs.Bundle.{header_in}
use Rattle.protocol.specs.Update.{Note, Empty, Held, Delivered}
use Rattle.protocol.specs.Trace.{Trace}
use Rattle.calls.specs.Algorithm.{record_of}
use Rattle.system.specs.Demand3.{Call, Open, Broadcast, Receive, System, config_at, delivers, signs, buffer, ever, called}
use Rattle.system.specs.Order.{Orderly}

-- the node delivers this payload in the slot by a bundle that has a quorum of signers by itself
unfoldable pub delivers_at_once : (s : System) (slot : Slot) (payload : List ℕ) (node : ℕ) (call : Call) (records : List ℕ) → Bool
delivers_at_once s slot payload node Open records = false
delivers_at_once s slot payload node (Broadcast given out) records = false
delivers_at_once s slot payload node (Receive bundle out) records =
    delivers s slot payload node (Receive bundle out) records && leb (quorum (config_at s node)) (size (header_in bundle).signers)

-- R13.3: what a node delivered and did not sign came to it in a single bundle with a quorum, whoever is faulty and whatever is forged.
abbrev pub OtherAtOnce : Type 0
OtherAtOnce =
    (s : System) (list : Trace Call) → Orderly s list
    → (u : ℕ) (slot : Slot) (payload : List ℕ) → u < s.shared.n
    → ever s (delivers s slot payload) list u ≡ true → ever s (signs s slot payload) list u ≡ false
    → ever s (delivers_at_once s slot payload) list u ≡ true

-- R13.2: a node that was called holds one payload of a slot, the one that it signed there. It signs no second one; an empty record means that it signed none,
-- a held one that it signed the payload held, and a delivered one that it signed some payload.
pub record HoldsSigned (s : System) (list : Trace Call) (u : ℕ) (slot : Slot) : Type 0 where
  pub signs_one : (first second : List ℕ) → ever s (signs s slot first) list u ≡ true → ever s (signs s slot second) list u ≡ true → first ≡ second
  pub empty : record_of (config_at s u) slot (buffer s list u) ≡ Empty → (payload : List ℕ) → ever s (signs s slot payload) list u ≡ false
  pub held : (signers : ℕ) (payload : List ℕ) (note : Note) → record_of (config_at s u) slot (buffer s list u) ≡ Held signers payload note
      → ever s (signs s slot payload) list u ≡ true
  pub delivered : (signers : ℕ) (payload : List ℕ) (note : Note) → record_of (config_at s u) slot (buffer s list u) ≡ Delivered signers payload note
      → (signed : List ℕ) × (ever s (signs s slot signed) list u ≡ true)

abbrev pub OnePayloadHeld : Type 0
OnePayloadHeld =
    (s : System) (list : Trace Call) → Orderly s list
    → (u sender seq : ℕ) → u < s.shared.n → called s list u ≡ true → in_range s.shared (slot_of_day s.shared sender seq) ≡ true
    → HoldsSigned s list u (slot_of_day s.shared sender seq)
