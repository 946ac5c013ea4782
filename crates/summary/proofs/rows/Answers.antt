-- `rows` meets its contract: each turn writes the rows of one sender. Assumes nothing.
use Prim.Native.Nat.{◌*◌}
use native.Mathlib.Omega.{arith}
use Rattle.config.specs.Config as config
use Rattle.summary.specs.Summary.{slots_text, slot_space}
use Rattle.summary.proofs.LastRows.{sender-length, risen-none, risen-room, risen-more, risen-all}
use Rattle.summary.proofs.rows.Goals as goal

pub loop-sender-init : goal.loop-sender-init
loop-sender-init c = risen-none _ _ _

pub sender_rows-end-requires : goal.sender_rows-end-requires
sender_rows-end-requires c =
    risen-room _ (slot_space * config.slots) (sender-length c.args.config _) (omega arith) c.loop-sender.invariant

pub loop-sender-preserved : goal.loop-sender-preserved
loop-sender-preserved c =
    let wrote = c.sender_rows-end.ensures in
    risen-more _ (slot_space * config.slots) (sender-length c.args.config _) (omega arith) c.loop-sender.invariant wrote.value wrote.out_after

pub returns : goal.returns
unfolding slots_text
returns c =
    let (end, out) = risen-all c.args.config.n (omega arith) c.loop-sender.invariant in
    record { value = end; out_after = out }
