-- What the signers in the records of correct nodes are worth: what specs/Notes.antt claims, from the same on values. At the list's end the slot's bytes are the
-- record that the acts leave, and what was signed by an act was signed by a call. Assumes nothing.
use mathlib.Core.Path.{◌≡◌, refl, ap, ◌∙◌, subst}
use mathlib.Core.Bool.{true}
use mathlib.Core.List.{List}
use Prim.Native.Nat.{ℕ, ◌≤◌}
use Rattle.config.specs.Config.{with_own, slot_of_day, in_range}
use Rattle.config.specs.declared.Slot.{Slot}
use Rattle.config.proofs.Laws.{good-says}
use Rattle.protocol.specs.Update.{Record, note_of}
use Rattle.protocol.specs.Trace.{Trace}
use Rattle.protocol.specs.Notes as values
use Rattle.protocol.proofs.Notes as values-proved
use Rattle.protocol.specs.OneSlot as one-slot
use Rattle.system.specs.Demand3.{Call, System, config_at, correct}
use Rattle.system.specs.Order.{Orderly}
use Rattle.system.specs.Notes.{LawfulList, AssumedLawful, Stands, Worth, WorthOfSigners, SignsOne, TwoTellOfSender, CorrectSenderUnnoted}
use Rattle.system.proofs.CommonConfig.{quorum_of, InRange}
use Rattle.system.proofs.Simulation.{acts, lawful-order, lawful-acts, correct-below}
use Rattle.system.proofs.Differences.{record-left, signed_back}

pub assumed-lawful : AssumedLawful
assumed-lawful s list assumed = record { configured = assumed.configured; dated = assumed.dated; lawful = assumed.lawful }

module _ (s : System) (list : Trace Call) (given : LawfulList s list) (sender seq : ℕ) (inside : in_range s.shared (slot_of_day s.shared sender seq) ≡ true) where
  abbrev slot : Slot
  slot = slot_of_day s.shared sender seq

  orderly : Orderly s list
  orderly = record { configured = given.configured; dated = given.dated; ordered = lawful-order s list given.lawful }

  range : InRange s slot
  unfolding slot_of_day
  range = record { today = refl; inside = inside }

  fits : s.shared.n ≤ 64
  unfolding config_at with_own
  fits = (good-says (config_at s 0) given.configured).most

  lawful : one-slot.Lawful s.shared.n (quorum_of s) sender s.faulty (acts s slot list)
  unfolding slot_of_day
  lawful = lawful-acts s slot range given.configured given.dated list given.lawful

  -- what stands in the buffers stands in the records that the acts leave
  on_values : (u signers : ℕ) (payload : List ℕ) → Stands s list sender seq u signers payload
      → values.Stands s.shared.n (quorum_of s) sender s.faulty (acts s slot list) u signers payload
  unfolding correct
  on_values u signers payload stands =
      record {
        correct_there = stands.correct_there;
        beside =
            subst (λ (r : Record). values.Beside r signers payload)
            (record-left s list orderly slot range u (correct-below s u stands.correct_there) stands.called_there) stands.beside;
      }

  worth : (u signers : ℕ) (payload : List ℕ) → Stands s list sender seq u signers payload → Worth s list sender seq signers payload
  unfolding correct
  worth u signers payload stands =
      let w = values-proved.worth-of-signers s.shared.n (quorum_of s) sender s.faulty (acts s slot list) fits lawful u signers payload (on_values u signers payload stands) in
      record {
        nodes = w.nodes;
        sender_signed = w.sender_signed;
        signed_by = λ v fine m. signed_back s list orderly slot range payload v (w.signed_by v fine m);
      }

pub worth-of-signers : WorthOfSigners
worth-of-signers s list given sender seq inside u signers payload stands = worth s list given sender seq inside u signers payload stands

pub signs_one : SignsOne
unfolding correct
signs_one s list given sender seq inside u w a b first second at-u at-w v fine in-a in_b =
    values-proved.signs_one s.shared.n (quorum_of s) sender s.faulty (acts s (slot_of_day s.shared sender seq) list) (fits s list given sender seq inside)
    (lawful s list given sender seq inside) u w a b first second (on_values s list given sender seq inside u a first at-u)
    (on_values s list given sender seq inside w b second at-w) v fine in-a in_b

pub two-tell-of-sender : TwoTellOfSender
unfolding correct
two-tell-of-sender s list given sender seq inside u w a b first second at-u at-w differ =
    values-proved.two-tell-of-sender s.shared.n (quorum_of s) sender s.faulty (acts s (slot_of_day s.shared sender seq) list) (fits s list given sender seq inside)
    (lawful s list given sender seq inside) u w a b first second (on_values s list given sender seq inside u a first at-u)
    (on_values s list given sender seq inside w b second at-w) differ

pub correct-sender-unnoted : CorrectSenderUnnoted
unfolding correct
correct-sender-unnoted s list given sender seq inside good u fine here =
    ap note_of
    (record-left s list (orderly s list given sender seq inside) (slot_of_day s.shared sender seq) (range s list given sender seq inside) u (correct-below s u fine) here)
    ∙ values-proved.correct-sender-unnoted s.shared.n (quorum_of s) sender s.faulty (acts s (slot_of_day s.shared sender seq) list)
    (fits s list given sender seq inside) (lawful s list given sender seq inside) good u fine
