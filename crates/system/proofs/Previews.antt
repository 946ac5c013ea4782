-- R14.20: previews between the calls of a list change nothing in it, as specs/Previews.antt says. By going along the list.
-- Assumes nothing.
use mathlib.Core.Path.{◌≡◌, refl, ap, ap₂, ◌∙◌}
use mathlib.Core.Bool.{Bool, true, false, cond}
use mathlib.Core.List.{List, ◌∷◌}
use Prim.Native.Nat.{ℕ}
use lib.Dec.{eqb}
use Rattle.protocol.specs.Trace as trace
use Rattle.protocol.specs.Trace.{Trace, start, ◌then◌calls◌}
use Rattle.system.specs.Demand3.{Call, System, records_after, buffer}
use Rattle.system.specs.Previews.{Event, Makes, Previews, calls_of, records_after_event, buffer_after, given, given_among, PreviewsChangeNothing}

either : (b : Bool) (records : List ℕ) → cond b records records ≡ records
either true records = refl
either false records = refl

module _ (s : System) where
  same-buffer : (events : Trace Event) (node : ℕ) → buffer_after s events node ≡ buffer s (calls_of events) node
  unfolding trace.state calls_of records_after_event
  same-buffer start node = refl
  same-buffer (earlier then v calls Makes call) node =
      ap (λ (records : List ℕ). cond (eqb node v) (records_after s node call records) records) (same-buffer earlier node)
  same-buffer (earlier then v calls Previews bundle out) node = either (eqb node v) _ ∙ same-buffer earlier node

  same-given : {A : Type 0} (gives : (node : ℕ) (call : Call) (records : List ℕ) → A) (events : Trace Event)
      → given_among s gives events ≡ given s gives (calls_of events)
  unfolding calls_of given given_among
  same-given gives start = refl
  same-given gives (earlier then v calls Makes call) = ap₂ ◌∷◌ (ap (gives v call) (same-buffer earlier v)) (same-given gives earlier)
  same-given gives (earlier then v calls Previews bundle out) = same-given gives earlier

pub previews-change-nothing : PreviewsChangeNothing
previews-change-nothing s events = (same-buffer s events, λ A gives. same-given s gives events)
