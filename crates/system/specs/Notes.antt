-- R14.22: what the signers in the records of correct nodes are worth at the end of a list of demand 3, the claim of RULES section 14, whether they stand beside
-- a payload that is held or delivered or beside one that is noted. So a slot with two payloads tells of a sender that said two things. It is proved in
-- proofs/Notes.antt, from protocol's specs/Notes.antt.
-- Assumes nothing.
use Rattle.std.specs.Prelude.{◌≡◌, true, false, List, ℕ, ◌<◌, ◌^◌}
use Rattle.signers.specs.Signers.{member, within}
use Rattle.config.specs.Config.{good, slot_of_day, in_range}
use Rattle.protocol.specs.Update.{Nothing, note_of}
use Rattle.protocol.specs.Trace.{Trace}
use Rattle.protocol.specs.Notes.{Beside}
use Rattle.calls.specs.Algorithm.{record_of}
use Rattle.system.specs.Demand3.{Call, System, config_at, correct, signs, buffer, ever, called, Lawful, Assumed}

-- What is asked of the list: R14.2 to R14.6, as every list of demand 3 has it. How many nodes are faulty does not matter here.
pub record LawfulList (s : System) (list : Trace Call) : Type 0 where
  pub configured : good (config_at s 0) ≡ true
  pub dated : s.shared.day < 2 ^ 32
  pub lawful : Lawful s list

abbrev pub AssumedLawful : Type 0
AssumedLawful = (s : System) (list : Trace Call) → Assumed s list → LawfulList s list

module _ (s : System) (list : Trace Call) (sender seq : ℕ) where
  -- At the list's end a correct node that was called has in its record of the slot these signers beside this payload: held, delivered or noted.
  pub record Stands (u signers : ℕ) (payload : List ℕ) : Type 0 where
    pub correct_there : correct s u ≡ true
    pub called_there : called s list u ≡ true
    pub beside : Beside (record_of (config_at s u) (slot_of_day s.shared sender seq) (buffer s list u)) signers payload

  -- Only nodes are signers, and the sender is one of them; the bit of a correct node was set by its signing of this payload in this slot, by a call of the list.
  pub record Worth (signers : ℕ) (payload : List ℕ) : Type 0 where
    pub nodes : within signers s.shared.n ≡ true
    pub sender_signed : member signers sender ≡ true
    pub signed_by : (v : ℕ) → correct s v ≡ true → member signers v ≡ true → ever s (signs s (slot_of_day s.shared sender seq) payload) list v ≡ true

abbrev pub WorthOfSigners : Type 0
WorthOfSigners =
    (s : System) (list : Trace Call) → LawfulList s list
    → (sender seq : ℕ) → in_range s.shared (slot_of_day s.shared sender seq) ≡ true
    → (u signers : ℕ) (payload : List ℕ) → Stands s list sender seq u signers payload → Worth s list sender seq signers payload

-- No correct node is a signer beside two payloads of a slot, at one correct node or at two.
abbrev pub SignsOne : Type 0
SignsOne =
    (s : System) (list : Trace Call) → LawfulList s list
    → (sender seq : ℕ) → in_range s.shared (slot_of_day s.shared sender seq) ≡ true
    → (u w a b : ℕ) (first second : List ℕ) → Stands s list sender seq u a first → Stands s list sender seq w b second
    → (v : ℕ) → correct s v ≡ true → member a v ≡ true → member b v ≡ true → first ≡ second

-- So two payloads tell of a sender that is not correct. It signed both.
abbrev pub TwoTellOfSender : Type 0
TwoTellOfSender =
    (s : System) (list : Trace Call) → LawfulList s list
    → (sender seq : ℕ) → in_range s.shared (slot_of_day s.shared sender seq) ≡ true
    → (u w a b : ℕ) (first second : List ℕ) → Stands s list sender seq u a first → Stands s list sender seq w b second
    → (first ≡ second → ⊥)
    → (correct s sender ≡ false) × (member a sender ≡ true) × (member b sender ≡ true)

-- And in the slot of a correct sender no correct node that was called notes anything.
abbrev pub CorrectSenderUnnoted : Type 0
CorrectSenderUnnoted =
    (s : System) (list : Trace Call) → LawfulList s list
    → (sender seq : ℕ) → in_range s.shared (slot_of_day s.shared sender seq) ≡ true → correct s sender ≡ true
    → (u : ℕ) → correct s u ≡ true → called s list u ≡ true
    → note_of (record_of (config_at s u) (slot_of_day s.shared sender seq) (buffer s list u)) ≡ Nothing
