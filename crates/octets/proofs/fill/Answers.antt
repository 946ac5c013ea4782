-- `fill` meets its contract: four words are put one after the other. Assumes nothing.
use mathlib.Core.Path.{◌∙◌}
use native.Mathlib.Omega.{arith}
use borrow.Author.Tests.{eq-eqb, ne_eqb}
use Rattle.octets.specs.Octets.{bytes_of, words, filled}
use Rattle.octets.proofs.WordWritten.{written_none, written-word, written_all}
use Rattle.octets.proofs.fill.Goals as goal

-- ---- the needs
pub returns-then-bytes-ne32 : goal.returns-then-bytes-ne32
unfolding filled
returns-then-bytes-ne32 c = rw (ne_eqb _ _ c.if-bytes-ne32.true)

pub returns : goal.returns
unfolding filled words bytes_of
returns c =
    let long = c.if-bytes-ne32.false in
    let one = written-word _ (written_none _) (omega arith) c.put.ensures in
    let two = written-word _ one (omega arith) c.put-2.ensures in
    let three = written-word _ two (omega arith) c.put-3.ensures in
    let four = written-word _ three (omega arith) c.put-4.ensures in
    written_all four (omega arith) ∙ rw (eq-eqb _ _ long)
