-- `is_blank` meets its contract: both halves are asked. Assumes nothing.
use mathlib.Core.Path.{◌≡◌, sym, ap, ◌∙◌}
use mathlib.Core.Bool.{Bool, true, false, ◌&&◌}
use Rattle.octets.specs.Octets.{blank}
use Rattle.block.specs.Block as block
use Rattle.block.specs.declared.Block.{Block}
use Rattle.record.specs.declared.Record.{Record}
use Rattle.note.specs.Note as note
use Rattle.record.specs.Record.{bytes}
use Rattle.record.specs.Inner.{held_block}
use Rattle.record.proofs.Words.{blank-halves}
use Rattle.record.proofs.Record.is_blank.Goals as goal
use Rattle.record.proofs.Record.is_blank.Goals.{After-is_blank}

-- the record, and what was found of its first half
abbrev start : After-is_blank → Record
start c = c.args.self

half-blank : (c : After-is_blank) → blank (block.bytes (held_block (start c))) ≡ c.is_blank.result
half-blank c = sym (c.is_blank.ensures ∙ ap (λ (b : Block). blank (block.bytes b)) c.half.ensures)

half-decides : (r : Record) (b : Bool) → blank (block.bytes (held_block r)) ≡ b → blank (bytes r) ≡ (b && blank (note.bytes r.note))
half-decides r b e = blank-halves r ∙ ap (λ (x : Bool). x && blank (note.bytes r.note)) e

pub returns-then-not-is_blank : goal.returns-then-not-is_blank
returns-then-not-is_blank c = sym (half-decides (start (goal.at.returns-then-not-is_blank c).After-is_blank) false (half-blank (goal.at.returns-then-not-is_blank c).After-is_blank ∙ c.if-not-is_blank.true))

pub returns : goal.returns
returns c =
    let asked = c in
    c.is_blank-2.ensures ∙ sym (half-decides (start (goal.at.returns c).After-is_blank) true (half-blank (goal.at.returns c).After-is_blank ∙ c.if-not-is_blank.false))
