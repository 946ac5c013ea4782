-- RULES section 4: the 64 bytes in which a node keeps what it has of a slot, and when they are well-formed, called sound in the rules; and what a bundle does
-- to them. Their second half, what is noted, is in note's specs/Note.antt.
-- Assumes nothing.
use Rattle.std.specs.Prelude.{Bool, not, cond, ◌&&◌, List, [], ◌∷◌, ◌++◌, ℕ, ltb, leb, eqb, length, get_or, replicate, Result}
use Rattle.octets.specs.Octets.{number, bytes_of, part, blank}
use Rattle.payload.specs.Payload as payload
use Rattle.block.specs.Block as block
use Rattle.signers.specs.Signers.{member, within, size}
use Rattle.refusal.specs.Refusal.{outcome_of}
use Rattle.refusal.specs.declared.Refusal.{Refusal}
use Rattle.refusal.specs.Outcome.{Outcome, done, ◌if◌, checked, ◌and_then◌}
use Rattle.config.specs.declared.Config.{Config}
use Rattle.config.specs.Config.{quorum, record_size}
use Rattle.protocol.specs.Update as protocol
use Rattle.protocol.specs.Update.{kept, signed, delivered, noted, Update, Empty, Held, Delivered}
use Rattle.note.specs.Note as note
use Rattle.record.specs.declared.Record.{Record}
use Rattle.record.specs.declared.Received.{Received}
use Rattle.record.specs.declared.Answer as Answer

-- R4.1: the state in one byte, seven zero bytes, the signers in eight, the payload, and what is noted
unfoldable pub layout : (state signers : ℕ) (payload aside : List ℕ) → List ℕ
layout state signers payload aside = state ∷ (replicate 7 0 ++ (bytes_of 8 signers ++ (payload ++ aside)))

-- the bytes of a record; those of an empty one are all zero (R4.5)
unfoldable pub encoding : protocol.Record → List ℕ
encoding Empty = replicate record_size 0
encoding (Held signers payload aside) = layout 1 signers payload (note.encoding aside)
encoding (Delivered signers payload aside) = layout 2 signers payload (note.encoding aside)

-- both halves are blocks (R4.1): where the signers start, byte 8, the payload after them, and what is noted after that, byte 32
abbrev pub signers_at : ℕ
signers_at = block.second_at

abbrev pub payload_at : ℕ
payload_at = block.payload_at

abbrev pub note_at : ℕ
note_at = block.block_size

abbrev pub state_field : List ℕ → ℕ
state_field bytes = get_or bytes 0 0

abbrev pub signers_field : List ℕ → ℕ
signers_field bytes = number (part signers_at 8 bytes)

abbrev pub payload_field : List ℕ → List ℕ
payload_field bytes = part payload_at payload.payload_size bytes

abbrev pub note_field : List ℕ → List ℕ
note_field bytes = part note_at note.note_size bytes

-- the record that well-formed bytes write
unfoldable pub decoded : List ℕ → protocol.Record
decoded bytes =
    cond (eqb (state_field bytes) 0) Empty
    (cond (eqb (state_field bytes) 1)
    (Held (signers_field bytes) (payload_field bytes) (note.decoded (note_field bytes)))
    (Delivered (signers_field bytes) (payload_field bytes) (note.decoded (note_field bytes))))

-- R4.4, what each state asks for: empty, that every byte is zero; held, that the sender and we have signed; delivered, that the sender and a quorum have
unfoldable pub state_allows : (config : Config) (sender : ℕ) (bytes : List ℕ) → protocol.Record → Bool
state_allows config sender bytes Empty = blank bytes
state_allows config sender bytes (Held signers payload aside) = member signers sender && member signers config.own
state_allows config sender bytes (Delivered signers payload aside) = member signers sender && leb (quorum config) (size signers)

-- R4.4: the state is one of the three, the seven bytes after it are zero, only nodes have signed, what the state asks for is so, and what is noted is
-- well-formed beside the payload (R4.8)
unfoldable pub well_formed : (config : Config) (sender : ℕ) (bytes : List ℕ) → Bool
well_formed config sender bytes =
    ltb (state_field bytes) 3
    && (blank (part 1 7 bytes)
    && (within (signers_field bytes) config.n
    && (state_allows config sender bytes (decoded bytes) && note.well_formed config sender (payload_field bytes) (note_field bytes))))

-- ---- as a program has it: two words, a payload and a note

unfoldable pub bytes : Record → List ℕ
bytes r = bytes_of 8 r.head ++ (bytes_of 8 r.signers ++ (payload.bytes r.payload ++ note.bytes r.note))

-- the bytes of the record that is loaded from a slice: the slice's own, and those of an empty record if it has another length
unfoldable pub loaded : List ℕ → List ℕ
loaded xs = cond (eqb (length xs) record_size) xs (replicate record_size 0)

-- 21, and then R8.2 to R8.6, R8.14 and R8.16: receiving a bundle with these signers and this payload on the bytes of a record, well-formed or not
unfoldable pub received : (config : Config) (sender signers : ℕ) (payload bytes : List ℕ) → Outcome Update
received config sender signers payload bytes =
    checked ((21 if not (well_formed config sender bytes)) ∷ []) and_then λ _. protocol.update config.own (quorum config) signers payload (decoded bytes)

-- an answer by the name that it has in the rules
abbrev pub answer_of : Answer.Answer → protocol.Answer
answer_of Answer.TheVariants.Kept = kept
answer_of Answer.TheVariants.Signed = signed
answer_of Answer.TheVariants.Delivered = delivered
answer_of Answer.TheVariants.Noted = noted

-- the number and values of each case of what was received (R17.3), the record by its bytes
abbrev pub received_of : Result Received Refusal → Outcome (protocol.Answer × List ℕ)
received_of received = outcome_of (λ r. (answer_of r.answer, bytes r.record)) received

-- an update, its record by its bytes
unfoldable pub encoded_update : Outcome Update → Outcome (protocol.Answer × List ℕ)
encoded_update outcome = outcome and_then (λ result. done (result.answer, encoding result.new_record))
