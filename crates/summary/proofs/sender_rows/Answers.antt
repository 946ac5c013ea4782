-- `sender_rows` meets its contract: each turn writes the row of one seq. Assumes nothing.
use native.Mathlib.Omega.{arith}
use Rattle.config.specs.Config.{slots}
use Rattle.summary.specs.Summary.{sender_text, shown_count, slot_space}
use Rattle.summary.proofs.LastRows.{row-short, risen-none, risen-room, risen-more, risen-all}
use Rattle.summary.proofs.sender_rows.Goals as goal

pub loop-seq-init : goal.loop-seq-init
loop-seq-init c = risen-none _ _ _

pub slot_row-end-requires : goal.slot_row-end-requires
slot_row-end-requires c =
    risen-room _ slot_space (row-short c.args.config (shown_count c.args.config c.args.records.now) c.args.sender) (omega arith) c.loop-seq.invariant

pub loop-seq-preserved : goal.loop-seq-preserved
loop-seq-preserved c =
    let counted = c.shown-delivered.ensures in
    let wrote = c.slot_row-end.ensures in
    risen-more _ slot_space (row-short c.args.config (shown_count c.args.config c.args.records.now) c.args.sender) (omega arith) c.loop-seq.invariant (rw (← counted) wrote.value) (rw (← counted) wrote.out_after)

pub returns : goal.returns
unfolding sender_text
returns c =
    let (end, out) = risen-all slots (omega arith) c.loop-seq.invariant in
    record { value = end; out_after = out }
