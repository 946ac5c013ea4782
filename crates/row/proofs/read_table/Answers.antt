-- `read_table` meets its contract: each number is read where the one before it ended. Assumes nothing.
use mathlib.Core.Path.{◌≡◌, sym, ◌∙◌}
use Prim.Native.Nat.{◌-◌, ◌^◌}
use Rattle.text.proofs.FieldPositions.{NumberRead, starts_first, number_read, number-missing}
use Rattle.row.specs.Row.{config_in}
use Rattle.row.proofs.TableFields.{TableFields, table-read, table-refused}
use Rattle.row.proofs.read_table.Goals as goal
use Rattle.row.proofs.read_table.Goals.{In_ok-n, In_ok-t, In_ok-d, In_ok-day, In_ok-quorum}

-- ---- each field
nodes-read : (c : In_ok-n) → NumberRead 255 0 c.args.line.now c.in_ok-n.n c.in_ok-n.faults_at
nodes-read c = number_read 255 (starts_first _) c.byte_at.ensures c.in_ok-n.was

faults-read : (c : In_ok-t) → NumberRead 255 1 c.args.line.now c.in_ok-t.t c.in_ok-t.losses_at
faults-read c = number_read 255 (nodes-read (goal.at.In_ok-t c).In_ok-n).starts c.byte_at-2.ensures c.in_ok-t.was

losses-read : (c : In_ok-d) → NumberRead 255 2 c.args.line.now c.in_ok-d.d c.in_ok-d.day_at
losses-read c = number_read 255 (faults-read (goal.at.In_ok-d c).In_ok-t).starts c.byte_at-3.ensures c.in_ok-d.was

day-read : (c : In_ok-day) → NumberRead (2 ^ 32 - 1) 3 c.args.line.now c.in_ok-day.day c.in_ok-day.quorum_at
day-read c = number_read (2 ^ 32 - 1) (losses-read (goal.at.In_ok-day c).In_ok-d).starts c.number_at.ensures c.in_ok-day.was

quorum-read : (c : In_ok-quorum) → NumberRead (2 ^ 32 - 1) 4 c.args.line.now c.in_ok-quorum.quorum c.in_ok-quorum.end
quorum-read c = number_read (2 ^ 32 - 1) (day-read (goal.at.In_ok-quorum c).In_ok-day).starts c.number_at-2.ensures c.in_ok-quorum.was

pub returns-in_err-n : goal.returns-in_err-n
returns-in_err-n c =
    c.from_residual.ensures ∙ table-refused _ (λ f. number-missing 255 (starts_first _) c.byte_at.ensures c.in_err-n.was f.nodes)

pub returns-in_err-t : goal.returns-in_err-t
returns-in_err-t c =
    let start = (nodes-read (goal.at.returns-in_err-t c).In_ok-n).starts in
    c.from_residual-in_err-t.ensures ∙ table-refused _ (λ f. number-missing 255 start c.byte_at-2.ensures c.in_err-t.was f.faults)

pub returns-in_err-d : goal.returns-in_err-d
returns-in_err-d c =
    let start = (faults-read (goal.at.returns-in_err-d c).In_ok-t).starts in
    c.from_residual-in_err-d.ensures ∙ table-refused _ (λ f. number-missing 255 start c.byte_at-3.ensures c.in_err-d.was f.losses)

pub returns-in_err-day : goal.returns-in_err-day
returns-in_err-day c =
    let start = (losses-read (goal.at.returns-in_err-day c).In_ok-d).starts in
    c.from_residual-in_err-day.ensures ∙ table-refused _ (λ f. number-missing (2 ^ 32 - 1) start c.number_at.ensures c.in_err-day.was f.day)

pub returns-in_err-quorum : goal.returns-in_err-quorum
returns-in_err-quorum c =
    let start = (day-read (goal.at.returns-in_err-quorum c).In_ok-day).starts in
    c.from_residual-in_err-quorum.ensures ∙ table-refused _ (λ f. number-missing (2 ^ 32 - 1) start c.number_at-2.ensures c.in_err-quorum.was f.quorum)

pub returns-then-end-line : goal.returns-then-end-line
returns-then-end-line c = table-refused _ (λ f. c.if-end-line.true ((quorum-read (goal.at.returns-then-end-line c).In_ok-quorum).ends f.last))

pub returns : goal.returns
unfolding config_in
returns c =
    let quorum = quorum-read (goal.at.returns c).In_ok-quorum in
    let day = day-read (goal.at.returns c).In_ok-day in
    let losses = losses-read (goal.at.returns c).In_ok-d in
    let faults = faults-read (goal.at.returns c).In_ok-t in
    let nodes = nodes-read (goal.at.returns c).In_ok-n in
    let last = quorum.last c.if-end-line.false in
    let fields : TableFields c.args.line.now =
    record { nodes = nodes.plain; faults = faults.plain; losses = losses.plain; day = day.plain; quorum = quorum.plain; last = last } in
    let gives : config_in c.args.line.now ≡ c.new-config.result =
    rw (nodes.is, faults.is, losses.is, day.is, ← last, quorum.is) (sym c.new-config.ensures) in
    c.then_some.ensures ∙ rw c.good.ensures (table-read _ c.new-config.result gives fields)
