-- What the nodes of a system have in common. They share the configuration but for own numbers, so they have one quorum, and the same slots are in range.
-- A bundle that one of them puts together names its slot, and every node reads it back.
-- Assumes nothing.
use mathlib.Core.Path.{◌≡◌, sym, ap, ◌∙◌, subst}
use mathlib.Core.Bool.{true, false, true≢false}
use mathlib.Core.List.{List}
use Prim.Native.Nat.{ℕ, ◌<◌, ◌^◌}
use borrow.Author.Tests.{eq-eqb}
use Rattle.octets.specs.Octets.{bytes_of}
use Rattle.octets.proofs.Numbers.{number-bytes_of}
use Rattle.config.specs.declared.Config.{Config}
use Rattle.config.specs.declared.Slot.{Slot}
use Rattle.config.specs.Config.{with_own, good, quorum, in_range, slot_of_day, same_slot}
use Rattle.config.proofs.Laws.{good-at-node, quorum-at-node, same-slot-self}
use Rattle.bundle.specs.declared.Header.{Header}
use Rattle.bundle.specs.Bundle.{bundle_of, slot_in, read, payload_part, slot_of, header_of}
use Rattle.protocol.proofs.WellFormed.{Bundled}
use Rattle.calls.proofs.SentReadsBack.{sent-reads}
use Rattle.refusal.specs.Outcome.{done}
use Rattle.system.specs.Demand3.{System, config_at, in_slot}

-- ---- the configuration

-- the quorum, which is every node's
abbrev pub quorum_of : System → ℕ
quorum_of s = quorum (config_at s 0)

-- a good configuration is good at every node
pub config-good : (s : System) (u : ℕ) → good (config_at s 0) ≡ true → u < s.shared.n → good (config_at s u) ≡ true
unfolding config_at with_own
config-good s u g l = good-at-node (config_at s 0) u g l

pub config-quorum : (s : System) (u : ℕ) → good (config_at s 0) ≡ true → u < s.shared.n → quorum (config_at s u) ≡ quorum_of s
unfolding config_at with_own
config-quorum s u g l = quorum-at-node (config_at s 0) u g l

-- ---- slots

-- A slot in which calls can do something: it is of the system's day, its sender is a node, and its number is one of the sixteen.
pub record InRange (s : System) (slot : Slot) : Type 0 where
  pub today : slot.day ≡ s.shared.day
  pub inside : in_range s.shared slot ≡ true

-- it is in range at every node, and what a node finds in range and of its day is
pub range_at : (s : System) (slot : Slot) (u : ℕ) → InRange s slot → in_range (config_at s u) slot ≡ true
unfolding config_at with_own in_range
range_at s slot u range = range.inside

pub range-from : (s : System) (slot : Slot) (u : ℕ) → slot.day ≡ (config_at s u).day → in_range (config_at s u) slot ≡ true → InRange s slot
unfolding config_at with_own in_range
range-from s slot u today inside = record { today = today; inside = inside }

-- and it is the slot of the day with its sender and number
pub slot-of-day : (config : Config) (slot : Slot) → slot.day ≡ config.day → slot_of_day config slot.sender slot.seq ≡ slot
unfolding slot_of_day
slot-of-day config slot today = ap {B = Slot} (λ (d : ℕ). record { day = d; sender = slot.sender; seq = slot.seq }) (sym today)

-- two slots of a day that are not one differ in sender or number
pub slots_apart : (first second : Slot) → first.day ≡ second.day → same_slot first second ≡ false → first.sender ≡ second.sender → first.seq ≡ second.seq → ⊥
unfolding same_slot
slots_apart first second d e s k =
    true≢false (sym (rw (eq-eqb first.day second.day d, eq-eqb first.sender second.sender s, eq-eqb first.seq second.seq k)) ∙ e)

-- ---- the slot of a bundle that was put together

abbrev pub slot_header : (slot : Slot) (signers : ℕ) → Header
slot_header slot signers = header_of slot signers

-- the bundle of a slot
abbrev pub slot_bundle : (slot : Slot) (signers : ℕ) (payload : List ℕ) → List ℕ
slot_bundle slot signers payload = bundle_of (slot_header slot signers) payload

-- a bundle names the slot that it was put together for
pub bundle-slot : (h : Header) (payload : List ℕ) → h.day < 2 ^ 32 → slot_in (bundle_of h payload) ≡ slot_of h
unfolding slot_in bundle_of bytes_of
bundle-slot h payload dated =
    ap {B = Slot} (λ (d : ℕ). record { day = d; sender = h.sender; seq = h.seq }) (number-bytes_of 4 h.day dated)

-- so it is in a slot if the two are the same
pub bundle-in-slot : (slot : Slot) (h : Header) (payload : List ℕ) → h.day < 2 ^ 32 → in_slot slot (bundle_of h payload) ≡ same_slot (slot_of h) slot
unfolding in_slot
bundle-in-slot slot h payload dated = ap (λ (named : Slot). same_slot named slot) (bundle-slot h payload dated)

-- a bundle that names the slot is in it
pub named-in-slot : (slot : Slot) (bundle : List ℕ) → slot_in bundle ≡ slot → in_slot slot bundle ≡ true
unfolding in_slot
named-in-slot slot bundle e = ap (λ (named : Slot). same_slot named slot) e ∙ same-slot-self slot

-- and reading at any node accepts it and gives it back, if its signers and payload are those of a bundle
pub bundle-reads : (s : System) (slot : Slot) → InRange s slot → good (config_at s 0) ≡ true → s.shared.day < 2 ^ 32 → (u : ℕ) → u < s.shared.n
    → (signers : ℕ) (payload : List ℕ) → Bundled s.shared.n slot.sender signers payload
    → (read (config_at s u) (slot_bundle slot signers payload) ≡ done (slot_header slot signers)) × (payload_part (config_at s u) (slot_bundle slot signers payload) ≡ payload)
unfolding config_at with_own
bundle-reads s slot range g dated u l signers payload b =
    let today = slot-of-day (config_at s u) slot range.today in
    subst
    (λ (k : Slot). (read (config_at s u) (slot_bundle k signers payload) ≡ done (slot_header k signers)) × (payload_part (config_at s u) (slot_bundle k signers payload) ≡ payload))
    today
    (sent-reads (config_at s u) slot.sender slot.seq signers payload (config-good s u g l) dated (rw today (range_at s slot u range)) b)
