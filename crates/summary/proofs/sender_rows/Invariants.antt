-- `sender_rows` meets its contract: each turn writes the row of one seq. Assumes nothing.
use Rattle.summary.specs.Summary.{shown_count}
use Rattle.summary.proofs.LastRows.{sender_rows, Risen}
use Rattle.summary.proofs.sender_rows.Given as goal

abbrev pub invariant-loop-seq : goal.invariant-loop-seq
invariant-loop-seq l = Risen (sender_rows l.config (shown_count l.config l.records) l.sender) l.at l.initial.out l.seq l.end l.out
