-- What functions of this crate promise each other. No public contract rests on it; a reader may pass it over: `half-well-formed` in proofs/WellFormed.antt
-- shows that the test here is what `well_formed` of specs/Record.antt asks of the first half.
-- Assumes nothing.
use Rattle.std.specs.Prelude.{◌≡◌, ◌⊎◌, Bool, cond, ◌&&◌, ℕ, leb, eqb}
use Rattle.signers.specs.Signers.{meets, size}
use Rattle.block.specs.declared.Block.{Block}
use Rattle.note.specs.declared.Note.{Note}
use Rattle.note.specs.Note as note
use Rattle.record.specs.declared.Record.{Record}

-- the first word of a held and of a delivered record: the state's byte and seven that are zero
abbrev pub held_head : ℕ
held_head = 0x100_0000_0000_0000

abbrev pub delivered_head : ℕ
delivered_head = 0x200_0000_0000_0000

-- the first word is a state and seven zero bytes
abbrev pub HasState : Record → Type 0
HasState r = (r.head ≡ 0) ⊎ ((r.head ≡ held_head) ⊎ (r.head ≡ delivered_head))

-- the first half, what it holds
abbrev pub held_block : Record → Block
held_block r = record { first = r.head; second = r.signers; payload = r.payload }

-- the bytes of its note are those of the note that they write
abbrev pub NoteReads : Note → Type 0
NoteReads n = note.encoding (note.decoded (note.bytes n)) ≡ note.bytes n

-- whether the first half of a record that is not empty is well-formed, as the code tests it, by a quorum and three sets: all nodes, us, the sender
unfoldable pub half_well_formed : (all q own sender : ℕ) (r : Record) → Bool
half_well_formed all q own sender r =
    leb r.signers all
    && cond (eqb r.head held_head) (meets r.signers sender && meets r.signers own)
    (meets r.signers sender && (eqb r.head delivered_head && leb q (size r.signers)))
