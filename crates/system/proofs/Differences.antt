-- The differences from Algorithm 1 on a whole list of calls: what specs/Differences.antt claims, from the same on values. The tests on the calls are those on
-- the acts that they come to, and at the list's end the slot's bytes are the record that the acts leave.
-- Assumes nothing.
use mathlib.Core.Path.{◌≡◌, refl, sym, ap, ◌∙◌}
use mathlib.Core.Bool.{Bool, true, false, true≢false}
use mathlib.Core.List.{List}
use Prim.Native.Nat.{ℕ, ◌≤◌, ◌<◌}
use native.Mathlib.Omega.{arith}
use Rattle.config.specs.declared.Slot.{Slot}
use Rattle.config.specs.Config.{with_own, slot_of_day}
use Rattle.config.proofs.Laws.{good-says}
use Rattle.protocol.specs.Trace.{Trace}
use Rattle.protocol.specs.OneSlot as one-slot
use Rattle.protocol.specs.Differences as values
use Rattle.protocol.proofs.Differences as values-proved
use Rattle.record.specs.Record.{decoded}
use Rattle.record.proofs.Encoding.{decoded-encoding}
use Rattle.calls.specs.Algorithm.{record_of}
use Rattle.system.specs.Demand3.{Call, System, config_at, delivers, signs, buffer, ever, called}
use Rattle.system.specs.Order.{Orderly}
use Rattle.system.specs.Differences.{delivers_at_once, HoldsSigned, OtherAtOnce, OnePayloadHeld}
use Rattle.system.proofs.CommonConfig.{quorum_of, InRange}
use Rattle.system.proofs.CallTests.{signs-forth, signs-back, at-once-back}
use Rattle.system.proofs.Simulation.{acts, slot_record, order-holds}
use Rattle.system.proofs.Demand3.{ever-on-acts, ever-on-calls, delivered-forth, delivered-range}

module _ (s : System) (list : Trace Call) (orderly : Orderly s list) (slot : Slot) (range : InRange s slot) where
  abbrev q : ℕ
  q = quorum_of s

  few : s.shared.n ≤ 64
  unfolding config_at with_own
  few = (good-says (config_at s 0) orderly.configured).most

  -- signing on the list is signing on values
  signed-forth : (payload : List ℕ) (u : ℕ) → ever s (signs s slot payload) list u ≡ true → one-slot.ever q (one-slot.signs q payload) (acts s slot list) u ≡ true
  signed-forth payload u =
      ever-on-acts s list orderly slot range (signs s slot payload) (one-slot.signs q payload) u
      (λ call records r. signs-forth s slot u call records r range orderly.configured orderly.dated payload)

  pub signed_back : (payload : List ℕ) (u : ℕ) → one-slot.ever q (one-slot.signs q payload) (acts s slot list) u ≡ true → ever s (signs s slot payload) list u ≡ true
  signed_back payload u =
      ever-on-calls s list orderly slot range (signs s slot payload) (one-slot.signs q payload) u
      (λ call records r. signs-back s slot u call records r range orderly.configured orderly.dated payload)

  -- so what was not signed on the one was not signed on the other
  unsigned-forth : (payload : List ℕ) (u : ℕ) → ever s (signs s slot payload) list u ≡ false → one-slot.ever q (one-slot.signs q payload) (acts s slot list) u ≡ false
  unsigned-forth payload u e = go (one-slot.ever q (one-slot.signs q payload) (acts s slot list) u) refl
    where
      go : (b : Bool) → one-slot.ever q (one-slot.signs q payload) (acts s slot list) u ≡ b → b ≡ false
      go true f = absurd (true≢false (sym (signed_back payload u f) ∙ e))
      go false f = refl

  unsigned_back : (payload : List ℕ) (u : ℕ) → one-slot.ever q (one-slot.signs q payload) (acts s slot list) u ≡ false → ever s (signs s slot payload) list u ≡ false
  unsigned_back payload u e = go (ever s (signs s slot payload) list u) refl
    where
      go : (b : Bool) → ever s (signs s slot payload) list u ≡ b → b ≡ false
      go true f = absurd (true≢false (sym (signed-forth payload u f) ∙ e))
      go false f = refl

  module _ (u : ℕ) (known : u < s.shared.n) where
    room : u < 64
    room = omega (arith, few)

    at-once-in : (payload : List ℕ) → ever s (delivers s slot payload) list u ≡ true → ever s (signs s slot payload) list u ≡ false
        → ever s (delivers_at_once s slot payload) list u ≡ true
    at-once-in payload e unsigned =
        ever-on-calls s list orderly slot range (delivers_at_once s slot payload) (values.delivers_at_once q payload) u
        (λ call records r. at-once-back s slot u call records r payload)
        (values-proved.other-at-once q (acts s slot list) u payload room (delivered-forth s list orderly slot range payload u e) (unsigned-forth payload u unsigned))

    -- at the end a node that was called has the record that the acts leave
    module _ (here : called s list u ≡ true) where
      pub record-left : record_of (config_at s u) slot (buffer s list u) ≡ slot_record s slot list u
      record-left =
          let holds = order-holds s slot range orderly.configured orderly.dated list orderly.ordered u here in
          ap decoded holds.held ∙ decoded-encoding s.shared.n slot.sender q u few (slot_record s slot list u) holds.well-formed

      pub holds-signed : HoldsSigned s list u slot
      holds-signed =
          let kept = values-proved.one-payload-held q (acts s slot list) u room in
          record {
            signs_one = λ first second e f. kept.signs_one first second (signed-forth first u e) (signed-forth second u f);
            empty = λ e payload. unsigned_back payload u (kept.empty (sym record-left ∙ e) payload);
            held = λ signers payload note e. signed_back payload u (kept.held signers payload note (sym record-left ∙ e));
            delivered = λ signers payload note e. let (signed, made) = kept.delivered signers payload note (sym record-left ∙ e) in (signed, signed_back signed u made);
          }

pub other-at-once : OtherAtOnce
other-at-once s list orderly u slot payload known e unsigned =
    at-once-in s list orderly slot (delivered-range s list u slot payload e) u known payload e unsigned

pub one-payload-held : OnePayloadHeld
unfolding slot_of_day
one-payload-held s list orderly u sender seq known here inside =
    holds-signed s list orderly (slot_of_day s.shared sender seq) (record { today = refl; inside = inside }) u known here
