-- `put` meets its contract: a slice with no room stays, and else a part of it becomes the word. Assumes nothing.
use mathlib.Core.Path.{sym, ◌∙◌}
use native.Mathlib.Omega.{arith}
use Rattle.octets.proofs.WordWritten.{placed-part, placed-none}
use Rattle.octets.proofs.WordRead.{library_bytes}
use Rattle.octets.proofs.put.Goals as goal

pub returns-then-bytes-lt8 : goal.returns-then-bytes-lt8
returns-then-bytes-lt8 c = sym (placed-none _ _ _ (omega (arith, c.if-bytes-lt8.true)))

pub returns-then-bytes-at : goal.returns-then-bytes-at
returns-then-bytes-at c = sym (placed-none _ _ _ (omega (arith, c.if-bytes-at.true)))

pub returns : goal.returns
returns c = placed-part _ _ c.args.bytes.now _ (omega arith) (c.copy_from_slice.ensures.after ∙ c.to_be_bytes.ensures ∙ library_bytes _)
