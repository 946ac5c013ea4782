-- The nodes that show a slot at the end of a run are those that were answered delivered there: `DeliveredAreShown` of specs/Calls.antt. A run is a list in
-- order, and after such a list a node shows a slot exactly if it was answered delivered there.
-- Assumes nothing.
use mathlib.Core.Path.{◌≡◌, refl}
use Prim.Native.Nat.{ℕ, ◌<◌}
use lib.ListN.{length-replicate}
use Rattle.signers.proofs.Counting.{count_same}
use Rattle.config.specs.Config.{records_size, with_own, slot_of_day}
use Rattle.config.proofs.Laws.{good-says, good-at-node}
use Rattle.protocol.specs.Trace.{Trace, start, ◌then◌calls◌}
use Rattle.system.specs.Demand3.{Call, System, config_at, delivers_in, ever}
use Rattle.system.proofs.Shown.{shown-answered}
use Rattle.system.specs.Order.{InOrder, Orderly}
use Rattle.run_trace.specs.RunTrace.{system_of, calls_of, delivered_count}
use Rattle.run_trace.specs.Calls.{Sized, EachOpensFirstAndOnce, DeliveredAreShown, shows_after, shown_after}
use Rattle.run_trace.proofs.Calls.{Within, run-begun}

-- a list that opens first, at nodes of the table, is in order
in_order : (s : System) → Sized s → (list : Trace Call) → EachOpensFirstAndOnce s list → Within s list → InOrder s list
unfolding config_at with_own records_size
in_order s sized start first within = tt
in_order s sized (earlier then u calls made) first within =
    (in_order s sized earlier first.0 within.0, within.1, sized u within.1, first.1)

pub delivered-are-shown : DeliveredAreShown
unfolding delivered_count shows_after shown_after system_of config_at with_own slot_of_day
delivered-are-shown config rows g dated sender seq =
    let s = system_of config in
    let begun = run-begun s rows in
    let orderly : Orderly s (calls_of config rows) =
    record {
      configured = good-at-node config 0 g (good-says config g).some;
      dated = dated;
      ordered = in_order s (λ u known. length-replicate {A = ℕ} (records_size config) 0) (calls_of config rows) begun.first begun.within;
    } in
    let each : (u : ℕ) → u < config.n
    → shows_after config (calls_of config rows) sender seq u ≡ ever s (delivers_in s (slot_of_day config sender seq)) (calls_of config rows) u =
    λ u known. shown-answered s (calls_of config rows) orderly u (slot_of_day config sender seq) refl known (begun.everywhere u known) in
    (each, count_same _ _ config.n each)
