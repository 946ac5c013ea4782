-- A block: 32 bytes as two words, high byte first, and a payload. A record is two of them (R4.1).
-- Assumes nothing.
use Rattle.std.specs.Prelude.{cond, List, ◌++◌, ℕ, eqb, length, replicate}
use Rattle.octets.specs.Octets.{bytes_of}
use Rattle.payload.specs.Payload as payload
use Rattle.block.specs.declared.Block.{Block}

-- how many bytes a block has
abbrev pub block_size : ℕ
block_size = 32

-- where the second word starts, and the payload after it
abbrev pub second_at : ℕ
second_at = 8

abbrev pub payload_at : ℕ
payload_at = 16

-- the bytes of a block
unfoldable pub bytes : Block → List ℕ
bytes b = bytes_of 8 b.first ++ (bytes_of 8 b.second ++ payload.bytes b.payload)

-- the bytes of the block that is loaded from a slice: the slice's own, and zeros if it has another length
unfoldable pub loaded : List ℕ → List ℕ
loaded slice = cond (eqb (length slice) block_size) slice (replicate block_size 0)
