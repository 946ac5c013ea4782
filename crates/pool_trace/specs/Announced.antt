-- R18.10 to R18.12: one setpoint from many on a whole list of calls, as RULES section 14 has them. Each claim is about the buffer that the list leaves at a node
-- that was called. They are proved in proofs/Announced.antt and proofs/Outcomes.antt.
-- Assumes nothing.
use Rattle.std.specs.Prelude.{◌≡◌, true, List, [], ◌∷◌, ℕ, ◌<◌, ℤ}
use Rattle.std.specs.Int.Signed.{le_z}
use Rattle.refusal.specs.Outcome.{Outcome, refused, done}
use Rattle.config.specs.Config.{slots, slot_of_day}
use Rattle.protocol.specs.Trace.{Trace}
use Rattle.system.specs.Demand3.{Call, System, config_at, correct, announces, delivers_in, buffer, ever, called, Assumed}
use Rattle.system.specs.Order.{Orderly}
use Rattle.setpoint.specs.Setpoint.{setpoint_in}
use Rattle.pool.specs.Pool.{latest, setpoint}

-- a correct sender announced this setpoint, in a payload that says it, in some slot of its own of the system's day
pub record AnnouncedSetpoint (s : System) (list : Trace Call) (sender : ℕ) (value : ℤ) : Type 0 where
  pub seq : ℕ
  pub payload : List ℕ
  pub is_correct : correct s sender ≡ true
  pub below : seq < slots
  pub says : setpoint_in payload ≡ value ∷ []
  pub announced : ever s (announces s (slot_of_day s.shared sender seq) payload) list sender ≡ true

-- what a node pools of a sender, and what it comes to, in the buffer that the list leaves
module _ (s : System) (list : Trace Call) (node : ℕ) where
  abbrev pub latest_at : (sender : ℕ) → List ℤ
  latest_at sender = latest (config_at s node) (buffer s list node) sender

  abbrev pub setpoint_at : Outcome ℤ
  setpoint_at = setpoint (config_at s node) (buffer s list node)

-- R18.10: on a list of demand 3, what a correct node pools of a correct sender is a setpoint that the sender announced,
abbrev pub PooledWasAnnounced : Type 0
PooledWasAnnounced =
    (s : System) (list : Trace Call) → Assumed s list
    → (u sender : ℕ) (value : ℤ) → correct s u ≡ true → called s list u ≡ true → correct s sender ≡ true
    → latest_at s list u sender ≡ value ∷ []
    → AnnouncedSetpoint s list sender value

-- and the outcome lies between two such, whatever the faulty senders say: one announced by a correct sender is at most it, and one is at least it.
abbrev pub OutcomeBetweenAnnounced : Type 0
OutcomeBetweenAnnounced =
    (s : System) (list : Trace Call) → Assumed s list
    → (u : ℕ) (outcome : ℤ) → correct s u ≡ true → called s list u ≡ true
    → setpoint_at s list u ≡ done outcome
    → ((sender : ℕ) × (low : ℤ) × AnnouncedSetpoint s list sender low × (le_z low outcome ≡ true))
    × ((sender : ℕ) × (high : ℤ) × AnnouncedSetpoint s list sender high × (le_z outcome high ≡ true))

-- R18.11: on a list in order too few setpoints are the one reason to refuse, at every node, whoever is faulty and whatever is forged: 1, 20 and 21 do not come.
abbrev pub RefusedByTooFewAlone : Type 0
RefusedByTooFewAlone =
    (s : System) (list : Trace Call) → Orderly s list
    → (u number : ℕ) → u < s.shared.n → called s list u ≡ true
    → setpoint_at s list u ≡ refused number
    → number ≡ 27

-- R18.12: on a list of demand 3 two correct nodes that have delivered in the same slots of the day come to the same, be it an outcome or a refusal. Other slots
-- are not in the buffer.
abbrev pub SameDeliveriesSameOutcome : Type 0
SameDeliveriesSameOutcome =
    (s : System) (list : Trace Call) → Assumed s list
    → (u v : ℕ) → correct s u ≡ true → correct s v ≡ true → called s list u ≡ true → called s list v ≡ true
    → ((sender seq : ℕ) → sender < s.shared.n → seq < slots
    → ever s (delivers_in s (slot_of_day s.shared sender seq)) list u ≡ ever s (delivers_in s (slot_of_day s.shared sender seq)) list v)
    → setpoint_at s list u ≡ setpoint_at s list v
