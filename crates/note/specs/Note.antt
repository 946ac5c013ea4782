-- R4.7 and R4.8: the 32 bytes in which a record notes a second payload, its second half, and when they are well-formed, called sound in the rules.
-- Assumes nothing.
use Rattle.std.specs.Prelude.{Bool, not, cond, ◌&&◌, List, ◌++◌, ℕ, eqb, replicate}
use Rattle.octets.specs.Octets.{number, bytes_of, part, same, blank}
use Rattle.payload.specs.Payload as payload
use Rattle.block.specs.Block.{block_size, second_at, payload_at}
use Rattle.signers.specs.Signers.{member, within}
use Rattle.config.specs.declared.Config.{Config}
use Rattle.protocol.specs.Update as protocol
use Rattle.protocol.specs.Update.{Nothing, Noted}
use Rattle.note.specs.declared.Note.{Note}

-- how many bytes a note has
abbrev pub note_size : ℕ
note_size = block_size

-- R4.7: the signers in eight bytes, eight zero bytes, and the payload; all are zero where nothing is noted
unfoldable pub encoding : protocol.Note → List ℕ
encoding Nothing = replicate note_size 0
encoding (Noted signers payload) = bytes_of 8 signers ++ (replicate 8 0 ++ payload)

abbrev pub signers_field : List ℕ → ℕ
signers_field bytes = number (part 0 8 bytes)

abbrev pub payload_field : List ℕ → List ℕ
payload_field bytes = part payload_at payload.payload_size bytes

-- the note that well-formed bytes write: signers of zero mean that nothing is noted
unfoldable pub decoded : List ℕ → protocol.Note
decoded bytes = cond (eqb (signers_field bytes) 0) Nothing (Noted (signers_field bytes) (payload_field bytes))

-- R4.8, what a note asks for beside the payload `held`: nothing noted, that every byte is zero; else that only nodes have signed, the sender among them, and
-- that the payload is another one
unfoldable pub note_allows : (config : Config) (sender : ℕ) (held bytes : List ℕ) → protocol.Note → Bool
note_allows config sender held bytes Nothing = blank bytes
note_allows config sender held bytes (Noted signers payload) = within signers config.n && (member signers sender && not (same payload held))

-- R4.8: the eight bytes after the signers are zero, and what the note asks for is so
unfoldable pub well_formed : (config : Config) (sender : ℕ) (held bytes : List ℕ) → Bool
well_formed config sender held bytes = blank (part second_at 8 bytes) && note_allows config sender held bytes (decoded bytes)

-- ---- as a program has it: two words and a payload

unfoldable pub bytes : Note → List ℕ
bytes n = bytes_of 8 n.signers ++ (bytes_of 8 n.zero ++ payload.bytes n.payload)
