-- `to_bytes` meets its contract: the two words, one after the other, are the payload's bytes. Assumes nothing.
use native.Mathlib.Omega.{arith}
use Rattle.octets.specs.Octets.{bytes_of}
use Rattle.octets.proofs.WordWritten.{written_none, written-word, written_all}
use Rattle.payload.specs.Payload.{bytes}
use Rattle.payload.proofs.Payload.to_bytes.Goals as goal

pub returns : goal.returns
unfolding bytes bytes_of
returns c =
    let high = written-word _ (written_none _) (omega arith) c.put.ensures in
    let low = written-word _ high (omega arith) c.put-2.ensures in
    written_all low (omega arith)
