-- `word` meets its contract: a slice of another length, or the number that the library reads from eight bytes. Assumes nothing.
use mathlib.Core.Path.{sym, ap, ◌∙◌}
use Rattle.std.specs.Int.{w64, from_be_bytes}
use Rattle.octets.proofs.WordRead.{word-other, word-read}
use Rattle.octets.proofs.word.Goals as goal

pub returns-in-Ok : goal.returns-in-Ok
returns-in-Ok c =
    let whole = c.in-Ok.ensures.1 in
    word-read c.args.bytes.now _ whole.long c.from_be_bytes.type_inv (λ i. (c.type_inv.bytes i).fits) (c.from_be_bytes.ensures ∙ ap (from_be_bytes w64) whole.same)

pub returns-in-Err : goal.returns-in-Err
returns-in-Err c = sym (word-other _ c.in-Err.ensures.1)
