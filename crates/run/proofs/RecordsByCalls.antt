-- The records of a run as it is played are those that its list of calls leaves at each node: so after the openings, and after each row. So a row
-- prints what specs/Run.antt says of it, and the last rows count as many nodes as show a slot after the calls.
-- Assumes nothing.
use mathlib.Core.Path.{◌≡◌, refl, sym, ap, ◌∙◌, fun_ext}
use mathlib.Core.Bool.{Bool, true, false, cond}
use mathlib.Core.List.{List}
use Prim.Native.Nat.{ℕ, zero, suc, ◌≤◌, ◌<◌}
use native.Mathlib.Nat.{le_refl}
use native.Mathlib.Omega.{arith}
use lib.Arith.{lt_of_le-ne}
use lib.Dec.{eqb}
use lib.ListN.{length, replicate, length-replicate}
use borrow.Author.Tests.{eqb-true, eqb-false}
use Rattle.std.specs.Prelude.{Option, Some, None}
use Rattle.signers.proofs.Counting.{count_same}
use Rattle.config.specs.declared.Config.{Config}
use Rattle.config.specs.Config.{good, records_size, with_own}
use Rattle.protocol.specs.Trace.{Trace, state}
use Rattle.calls.specs.Open.{open_records}
use Rattle.system.specs.Demand3.{Call, records_after, buffer, config_at}
use Rattle.system.proofs.Buffers.{after-length}
use Rattle.row.specs.declared.StepRow.{StepRow}
use Rattle.row.proofs.RowNodes.{NodeBelow}
use Rattle.step.specs.Step.{call_of, records_by}
use Rattle.run_trace.specs.RunTrace.{system_of, openings, with_row}
use Rattle.run_trace.specs.Calls.{shows_after, shown_after}
use Rattle.run_trace.proofs.Openings.{config-at, step-leaves, open-zeroed, opened-buffer}
use Rattle.nodes.specs.Nodes.{most_nodes, records_space, records_at, put_records, opened_up_to, row_records, row_text}
use Rattle.nodes.proofs.Parts.{all-played, at_length, put-length, put-there, put-elsewhere}
use Rattle.summary.specs.Summary.{shown_count}
use Rattle.run.specs.Run.{row_text_after}

-- each node's records are those that the calls leave there
pub record Plays (w : Config) (list : Trace Call) (records : List ℕ) : Type 0 where
  pub sized : length records ≡ records_space
  pub same : (u : ℕ) → u < w.n → records_at w u records ≡ buffer (system_of w) list u

-- ---- after the openings

module _ (w : Config) (few : w.n ≤ most_nodes) (g : good w ≡ true) where
  -- the records of the nodes below k are all zero
  abbrev Opened : (k : ℕ) (records : List ℕ) → Type 0
  Opened k records = (length records ≡ records_space) × ((u : ℕ) → u < k → records_at w u records ≡ replicate (records_size w) 0)

  -- one opening more
  one-opened : (k : ℕ) (records : List ℕ) → k < w.n → Opened k records → Opened (suc k) (put_records w k (open_records (with_own w k) (records_at w k records)) records)
  unfolding records_after config_at with_own system_of
  one-opened k records known before = (put-length w few records before.0 k known new long, λ u below. go u below (eqb u k) refl)
    where
      new : List ℕ
      new = open_records (with_own w k) (records_at w k records)

      zeros : new ≡ replicate (records_size w) 0
      zeros = open-zeroed (system_of w) g k known (records_at w k records) (at_length w few records before.0 k known)

      long : length new ≡ records_size w
      long = ap length zeros ∙ length-replicate {A = ℕ} (records_size w) 0

      go : (u : ℕ) → u < suc k → (b : Bool) → eqb u k ≡ b → records_at w u (put_records w k new records) ≡ replicate (records_size w) 0
      go u below true e = rw (eqb-true u k e) (put-there w few records before.0 k known new long ∙ zeros)
      go u below false e =
          let other = eqb-false u k e in
          put-elsewhere w few records before.0 k known new long u (omega arith) other ∙ before.1 u (lt_of_le-ne (omega arith) other)

  -- so many openings
  all-opened : (k : ℕ) (records : List ℕ) → length records ≡ records_space → k ≤ w.n → Opened k (opened_up_to w k records)
  unfolding opened_up_to
  all-opened zero records size most = (size, λ u below. absurd (omega arith))
  all-opened (suc k) records size most = one-opened k (opened_up_to w k records) most (all-opened k records size (omega arith))

  -- and all of them: the records are what the openings leave
  pub opened-plays : (records : List ℕ) → length records ≡ records_space → Plays w (openings w w.n) (opened_up_to w w.n records)
  unfolding system_of
  opened-plays records size =
      let (sized, zeros) = all-opened w.n records size (le_refl w.n) in
      record {
        sized = sized;
        same = λ u known. zeros u known
            ∙ sym (opened-buffer (system_of w) g (λ v here. length-replicate {A = ℕ} (records_size w) 0) w.n u known (le_refl w.n));
      }

-- ---- after a row

module _ (w : Config) (few : w.n ≤ most_nodes) (list : Trace Call) (records : List ℕ) (plays : Plays w list records) where
  pub row-plays : (row : Option StepRow) → NodeBelow w.n row → Plays w (with_row w list row) (row_records w row records)
  unfolding state system_of
  row-plays None known = plays
  row-plays (Some row) known =
      record {
        sized = put-length w few records plays.sized row.node known new long;
        same = λ u here. go u here (eqb u row.node) refl;
      }
    where
      new : List ℕ
      new = records_by (with_own w row.node) row.step (records_at w row.node records)

      long : length new ≡ records_size w
      long =
          ap length (step-leaves (system_of w) row.node row.step (records_at w row.node records))
          ∙ after-length (system_of w) row.node (call_of w row.step) (records_at w row.node records)
          ∙ at_length w few records plays.sized row.node known

      go : (u : ℕ) → u < w.n → (b : Bool) → eqb u row.node ≡ b
          → records_at w u (put_records w row.node new records)
          ≡ cond b (records_after (system_of w) u (call_of w row.step) (buffer (system_of w) list u)) (buffer (system_of w) list u)
      go u here true e =
          rw (eqb-true u row.node e)
          (put-there w few records plays.sized row.node known new long
          ∙ step-leaves (system_of w) row.node row.step (records_at w row.node records)
          ∙ ap (records_after (system_of w) row.node (call_of w row.step)) (plays.same row.node known))
      go u here false e = put-elsewhere w few records plays.sized row.node known new long u here (eqb-false u row.node e) ∙ plays.same u here

  -- what is printed for a row is what specs/Run.antt says of it,
  pub row-prints : (ordinal : ℕ) (row : Option StepRow) → NodeBelow w.n row → row_text w ordinal row records ≡ row_text_after w list ordinal row
  row-prints ordinal None known = refl
  row-prints ordinal (Some row) known = rw (plays.same row.node known, config-at w row.node)

  -- and as many nodes show a slot
  pub shown-same : shown_count w records ≡ shown_after w list
  unfolding shown_count shows_after shown_after
  shown-same =
      fun_ext
      (λ sender. fun_ext
      (λ seq. rw (all-played w few) (count_same _ _ w.n (λ u known. rw (plays.same u known, config-at w u)))))
