-- `read_payload` meets its contract: 32 digits are twice 16. Assumes nothing.
use mathlib.Core.Path.{ap, ◌∙◌}
use lib.ListN.{take, drop}
use Rattle.text.specs.Text.{hex, word_in}
use Rattle.text.proofs.FieldPositions.{part_end}
use Rattle.text.proofs.HexWords.{hex-length, hex-halves, hex-both, word_read, word-missing}
use Rattle.row.specs.Row.{payload_of_digits}
use Rattle.row.specs.RowParts.{hex_payload_in}
use Rattle.row.proofs.Choices.{chosen}
use Rattle.row.proofs.RowParts.{payload-refused}
use Rattle.row.proofs.read_payload.Goals as goal

pub returns-then-digits-ne32 : goal.returns-then-digits-ne32
returns-then-digits-ne32 c = payload-refused _ (λ e. c.if-digits-ne32.true (hex-length 32 _ e))

pub returns-in_err-high : goal.returns-in_err-high
returns-in_err-high c =
    let digits = c.args.digits.now in
    c.from_residual.ensures
    ∙ payload-refused digits (λ e. word-missing (take 16 digits) c.hex.ensures c.in_err-high.was (hex-both digits c.if-digits-ne32.false e).0)

pub returns-in_err-low : goal.returns-in_err-low
returns-in_err-low c =
    let digits = c.args.digits.now in
    let reader = c.hex-2.ensures ∙ ap word_in (part_end 16 digits) in
    c.from_residual-in_err-low.ensures
    ∙ payload-refused digits (λ e. word-missing (drop 16 digits) reader c.in_err-low.was (hex-both digits c.if-digits-ne32.false e).1)

pub returns : goal.returns
unfolding hex_payload_in payload_of_digits
returns c =
    let digits = c.args.digits.now in
    let (first, top) = word_read (take 16 digits) c.hex.ensures _ c.in_ok-high.was in
    let (second, bottom) = word_read (drop 16 digits) (c.hex-2.ensures ∙ ap word_in (part_end 16 digits)) _ c.in_ok-low.was in
    rw (← top, ← bottom) (chosen (hex 32 digits) _ _ (hex-halves digits c.if-digits-ne32.false ∙ rw (first, second)))
