-- `rows` meets its contract: each turn writes the rows of one sender. Assumes nothing.
use Rattle.summary.specs.Summary.{sender_text}
use Rattle.summary.specs.Summary.{shown_count}
use Rattle.summary.proofs.LastRows.{Risen}
use Rattle.summary.proofs.rows.Given as goal

abbrev pub invariant-loop-sender : goal.invariant-loop-sender
invariant-loop-sender l = Risen (sender_text l.config (shown_count l.config l.records)) l.at l.initial.out l.sender l.end l.out
