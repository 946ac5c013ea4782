-- R14.20: a preview (R8.9) is no call of the list, wherever it is made. Here is what happens at the nodes with previews between the calls. However many there
-- are, and of whatever bundles, each call finds the records that it would find without them, and gives the same. It is proved in proofs/Previews.antt.
-- Assumes nothing.
use Rattle.std.specs.Prelude.{◌≡◌, List, [], ◌∷◌, ℕ}
use Rattle.protocol.specs.Trace as trace
use Rattle.protocol.specs.Trace.{Trace, start, ◌then◌calls◌}
use Rattle.system.specs.Demand3.{Call, System, records_after, buffer}

-- what is done at a node: a call of the list, or a preview of a bundle, with what the caller gives for outgoing bytes
pub data Event : Type 0 where
  Makes : Call → Event
  Previews : (bundle out : List ℕ) → Event

-- the calls of the list, the previews left out
unfoldable pub calls_of : (events : Trace Event) → Trace Call
calls_of start = start
calls_of (earlier then node calls Makes call) = calls_of earlier then node calls call
calls_of (earlier then node calls Previews bundle out) = calls_of earlier

module _ (s : System) where
  -- the buffer as an event leaves it: to a preview it is lent for reading, and stays as it is (R8.11)
  unfoldable pub records_after_event : (node : ℕ) (event : Event) (records : List ℕ) → List ℕ
  records_after_event node (Makes call) records = records_after s node call records
  records_after_event node (Previews bundle out) records = records

  abbrev pub buffer_after : (events : Trace Event) (node : ℕ) → List ℕ
  buffer_after = trace.state s.buffers records_after_event

  -- `gives node call records` is anything that depends on a call and on the records that it finds: its answer, the records and the outgoing bytes that it
  -- leaves, or all of them
  module _ {A : Type 0} (gives : (node : ℕ) (call : Call) (records : List ℕ) → A) where
    -- what the calls of a list give, the last one first,
    unfoldable pub given : (list : Trace Call) → List A
    given start = []
    given (earlier then node calls call) = gives node call (buffer s earlier node) ∷ given earlier

    -- and what they give with previews between them
    unfoldable pub given_among : (events : Trace Event) → List A
    given_among start = []
    given_among (earlier then node calls Makes call) = gives node call (buffer_after earlier node) ∷ given_among earlier
    given_among (earlier then node calls Previews bundle out) = given_among earlier

-- Records, answers and outgoing bytes are those of the calls alone.
abbrev pub PreviewsChangeNothing : Type 1
PreviewsChangeNothing =
    (s : System) (events : Trace Event)
    → ((node : ℕ) → buffer_after s events node ≡ buffer s (calls_of events) node)
    × ((A : Type 0) (gives : (node : ℕ) (call : Call) (records : List ℕ) → A) → given_among s gives events ≡ given s gives (calls_of events))
