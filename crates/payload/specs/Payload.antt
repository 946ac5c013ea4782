-- R3.4: a payload, called body in the formats, is any 16 bytes. As a value it is two eight-byte words.
-- Assumes nothing.
use Rattle.std.specs.Prelude.{cond, List, ◌++◌, ℕ, eqb, length, replicate}
use Rattle.octets.specs.Octets.{bytes_of}
use Rattle.payload.specs.declared.Payload.{Payload}

-- how many bytes a payload has
abbrev pub payload_size : ℕ
payload_size = 16

-- the bytes of a payload
unfoldable pub bytes : Payload → List ℕ
bytes payload = bytes_of 8 payload.high ++ bytes_of 8 payload.low

-- the bytes of the payload that is loaded from a slice: the slice's own, and zeros if it has another length
unfoldable pub loaded : List ℕ → List ℕ
loaded slice = cond (eqb (length slice) payload_size) slice (replicate payload_size 0)
