-- What a call comes to in one slot: an act of the protocol on values, or none. A call concerns the slot of its own answer or of the bundle given.
-- Assumes nothing.
use mathlib.Core.Path.{◌≡◌, refl}
use mathlib.Core.Option.{Option, none, some}
use mathlib.Core.Bool.{Bool, true, false, ◌&&◌}
use mathlib.Core.List.{List}
use Prim.Native.Nat.{ℕ}
use lib.Dec.{eqb}
use lib.ListN.{length}
use borrow.Author.Tests.{eqb-true}
use Rattle.refusal.specs.Outcome.{Outcome, refused, done, after}
use Rattle.config.specs.declared.Slot.{Slot}
use Rattle.config.specs.Config.{same_slot}
use Rattle.config.proofs.Laws.{same-slot-says}
use Rattle.bundle.specs.declared.Header.{Header}
use Rattle.bundle.specs.Bundle.{bundle_size, read, payload_part, slot_of}
use Rattle.protocol.specs.OneSlot as one-slot
use Rattle.protocol.specs.OneSlot.{Act}
use Rattle.calls.specs.Records.{own_slot}
use Rattle.calls.specs.Broadcast.{broadcast}
use Rattle.system.specs.Demand3.{Call, Open, Broadcast, Receive, System, config_at}

-- this act, where the test passes
abbrev act_if : (test : Bool) (act : Act) → Option Act
act_if true act = some act
act_if false act = none

-- A broadcast concerns the slot of its answer. A bundle that reading accepts concerns the slot that it names, where the outgoing bytes are 32.
unfoldable pub act_in : (s : System) (slot : Slot) (node : ℕ) (call : Call) (records : List ℕ) → Option Act
act_in s slot node Open records = none
act_in s slot node (Broadcast payload out) records =
    after (broadcast (config_at s node) payload records out) (λ seq. act_if (same_slot (own_slot (config_at s node) seq) slot) (one-slot.Broadcast payload)) none
act_in s slot node (Receive bundle out) records =
    after (read (config_at s node) bundle)
    (λ h. act_if (same_slot (slot_of h) slot && eqb (length out) bundle_size) (one-slot.Receive h.signers (payload_part (config_at s node) bundle)))
    none

-- the ways in which a call comes to its act, or to none
pub data CallCase (s : System) (slot : Slot) (u : ℕ) (records : List ℕ) : Call → Option Act → Type 0 where
  opening : CallCase s slot u records Open none
  broadcast-here : (payload out : List ℕ) (seq : ℕ) → broadcast (config_at s u) payload records out ≡ done seq → own_slot (config_at s u) seq ≡ slot
      → CallCase s slot u records (Broadcast payload out) (some (one-slot.Broadcast payload))
  broadcast-elsewhere : (payload out : List ℕ) (seq : ℕ) → broadcast (config_at s u) payload records out ≡ done seq → same_slot (own_slot (config_at s u) seq) slot ≡ false
      → CallCase s slot u records (Broadcast payload out) none
  broadcast-refused : (payload out : List ℕ) (number : ℕ) → broadcast (config_at s u) payload records out ≡ refused number
      → CallCase s slot u records (Broadcast payload out) none
  received-here : (bundle out : List ℕ) (h : Header) → read (config_at s u) bundle ≡ done h → slot_of h ≡ slot → length out ≡ bundle_size
      → CallCase s slot u records (Receive bundle out) (some (one-slot.Receive h.signers (payload_part (config_at s u) bundle)))
  received-elsewhere : (bundle out : List ℕ) (h : Header) → read (config_at s u) bundle ≡ done h → same_slot (slot_of h) slot ≡ false
      → CallCase s slot u records (Receive bundle out) none
  received-no-room : (bundle out : List ℕ) (h : Header) → read (config_at s u) bundle ≡ done h → eqb (length out) bundle_size ≡ false
      → CallCase s slot u records (Receive bundle out) none
  received-unread : (bundle out : List ℕ) (number : ℕ) → read (config_at s u) bundle ≡ refused number
      → CallCase s slot u records (Receive bundle out) none

-- every call comes to its act in one of them
pub call-case : (s : System) (slot : Slot) (u : ℕ) (records : List ℕ) (call : Call) → CallCase s slot u records call (act_in s slot u call records)
unfolding act_in
call-case s slot u records Open = opening
call-case s slot u records (Broadcast payload out) = go (broadcast (config_at s u) payload records out) refl
  where
    pick : (seq : ℕ) → broadcast (config_at s u) payload records out ≡ done seq → (b : Bool) → same_slot (own_slot (config_at s u) seq) slot ≡ b
        → CallCase s slot u records (Broadcast payload out) (act_if b (one-slot.Broadcast payload))
    pick seq e true here = broadcast-here payload out seq e (same-slot-says (own_slot (config_at s u) seq) slot here)
    pick seq e false other = broadcast-elsewhere payload out seq e other

    go : (o : Outcome ℕ) → broadcast (config_at s u) payload records out ≡ o
        → CallCase s slot u records (Broadcast payload out) (after o (λ seq. act_if (same_slot (own_slot (config_at s u) seq) slot) (one-slot.Broadcast payload)) none)
    go (refused number) e = broadcast-refused payload out number e
    go (done seq) e = pick seq e (same_slot (own_slot (config_at s u) seq) slot) refl
call-case s slot u records (Receive bundle out) = go (read (config_at s u) bundle) refl
  where
    pick : (h : Header) → read (config_at s u) bundle ≡ done h → (b c : Bool) → same_slot (slot_of h) slot ≡ b → eqb (length out) bundle_size ≡ c
        → CallCase s slot u records (Receive bundle out) (act_if (b && c) (one-slot.Receive h.signers (payload_part (config_at s u) bundle)))
    pick h e true true here l = received-here bundle out h e (same-slot-says (slot_of h) slot here) (eqb-true (length out) bundle_size l)
    pick h e true false here l = received-no-room bundle out h e l
    pick h e false c other l = received-elsewhere bundle out h e other

    go : (o : Outcome Header) → read (config_at s u) bundle ≡ o
        → CallCase s slot u records (Receive bundle out)
        (after o
        (λ h. act_if (same_slot (slot_of h) slot && eqb (length out) bundle_size) (one-slot.Receive h.signers (payload_part (config_at s u) bundle)))
        none)
    go (refused number) e = received-unread bundle out number e
    go (done h) e = pick h e (same_slot (slot_of h) slot) (eqb (length out) bundle_size) refl refl
