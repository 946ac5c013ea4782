-- What the private types of this crate promise: the halves of a record, and the comparisons of two nodes' records. No public contract rests on these; a reader may pass them over.
-- Assumes nothing.
use Rattle.std.specs.Prelude.{ℕ, Result}
use Rattle.refusal.specs.declared.Refusal.{Refusal}
use Rattle.record.specs.declared.Record.{Record}
use Rattle.equivocators.specs.declared.Half.{Half}
use Rattle.equivocators.specs.declared.Pair.{Pair}
use Rattle.equivocators.specs.Inner.{Compared, slot_formed, slot_names, sender_formed, sender_names, all_formed, all_names}

-- what a record holds, and what it notes
abbrev pub held_half : Record → Half
held_half r = record { signers = r.signers; payload = r.payload }

abbrev pub noted_half : Record → Half
noted_half r = record { signers = r.note.signers; payload = r.note.payload }

-- what is found in a slot, in the sixteen of a sender, and in all
abbrev pub FoundInSlot : Pair → (sender seq : ℕ) → Result ℕ Refusal → Type 0
FoundInSlot p sender seq =
    Compared (slot_formed p.here.config p.there.config.own p.here.records.now p.there.records.now sender seq)
    (slot_names p.here.config p.there.config.own p.here.records.now p.there.records.now sender seq)

abbrev pub FoundInSender : Pair → (sender : ℕ) → Result ℕ Refusal → Type 0
FoundInSender p sender =
    Compared (sender_formed p.here.config p.there.config.own p.here.records.now p.there.records.now sender)
    (sender_names p.here.config p.there.config.own p.here.records.now p.there.records.now sender)

abbrev pub FoundInAll : Pair → Result ℕ Refusal → Type 0
FoundInAll p =
    Compared (all_formed p.here.config p.there.config.own p.here.records.now p.there.records.now)
    (all_names p.here.config p.there.config.own p.here.records.now p.there.records.now)
