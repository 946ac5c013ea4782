-- What a record notes of a second payload: that it never counts (R8.17), and what it is worth (R14.22), for one slot and on values. system's specs/Notes.antt
-- has the second of whole lists of calls. They are proved in proofs/Notes.antt.
-- Assumes nothing.
use Rattle.std.specs.Prelude.{◌≡◌, ◌⊎◌, Bool, true, false, cond, List, [], ◌∷◌, ℕ, ◌≤◌}
use Rattle.signers.specs.Sets.{NodeSet}
use Rattle.signers.specs.Signers.{member, within}
use Rattle.refusal.specs.Outcome.{Outcome, refused, done, after}
use Rattle.protocol.specs.Update.{Nothing, Noted, Record, Empty, signers_of, payload_of, note_of, is_empty, with_note, Answer, announced, kept, signed, delivered, noted, Update, sends, update}
use Rattle.protocol.specs.Trace as trace
use Rattle.protocol.specs.Trace.{Trace}
use Rattle.protocol.specs.OneSlot.{Act, record_after, sends_this, delivers_this, signs, current_record, ever, correct, Lawful}

-- ---- it never counts

-- the record but for its note
abbrev pub held_half : Record → Record
held_half r = with_note Nothing r

-- the answer, with noted told as the refusal in whose place it is given
abbrev pub answer_but_noted : Answer → Outcome Answer
answer_but_noted announced = done announced
answer_but_noted kept = done kept
answer_but_noted signed = done signed
answer_but_noted delivered = done delivered
answer_but_noted noted = refused 24

abbrev pub answered : Outcome Update → Outcome Answer
answered (refused number) = refused number
answered (done result) = answer_but_noted result.answer

-- the record that is left where r was found
abbrev pub left : Record → Outcome Update → Record
left r outcome = after outcome (λ result. result.new_record) r

-- the bundle that is sent, by its signers and payload, or none
abbrev pub sent_by : Outcome Update → List (ℕ × List ℕ)
sent_by outcome =
    after outcome (λ result. cond (sends result.answer) ((signers_of result.new_record, payload_of result.new_record) ∷ []) []) []

-- What a bundle comes to at two records is the same but for notes: the answers, the records left, and what is sent.
pub record SameButNotes (r other : Record) (o p : Outcome Update) : Type 0 where
  pub answers : answered o ≡ answered p
  pub records : held_half (left r o) ≡ held_half (left other p)
  pub sendings : sent_by o ≡ sent_by p

-- R8.17: two records that differ in their notes alone make the same of every bundle, but for notes.
abbrev pub NotesNeverCount : Type 0
NotesNeverCount =
    (own q signers : ℕ) (payload : List ℕ) (r other : Record) → held_half r ≡ held_half other
    → SameButNotes r other (update own q signers payload r) (update own q signers payload other)

-- R8.17, of a trace: a node that forgot every note at once. Its record after the acts, and whether some act passes a test at it.
module _ (q : ℕ) where
  unfoldable pub forgetting : (own : ℕ) (act : Act) (r : Record) → Record
  forgetting own act r = held_half (record_after q own act r)

  abbrev pub forgetful_record : (list : Trace Act) (node : ℕ) → Record
  forgetful_record = trace.state (λ node. Empty) forgetting

  abbrev pub ever_forgetful : (test : (own : ℕ) (act : Act) (r : Record) → Bool) (list : Trace Act) (node : ℕ) → Bool
  ever_forgetful = trace.ever (λ node. Empty) forgetting

-- It sends and delivers the same, and keeps the same but for notes.
abbrev pub ForgettingChangesNothing : Type 0
ForgettingChangesNothing =
    (q : ℕ) (list : Trace Act) (u : ℕ)
    → (held_half (current_record q list u) ≡ forgetful_record q list u)
    × ((signers : ℕ) (payload : List ℕ) → ever q (sends_this q signers payload) list u ≡ ever_forgetful q (sends_this q signers payload) list u)
    × ((payload : List ℕ) → ever q (delivers_this q payload) list u ≡ ever_forgetful q (delivers_this q payload) list u)

-- ---- what it is worth

-- The record has these signers beside this payload: it holds or delivered the payload with them, or it notes it with them.
abbrev pub Beside : Record → (signers : ℕ) (payload : List ℕ) → Type 0
Beside r signers payload = ((is_empty r ≡ false) × (signers_of r ≡ signers) × (payload_of r ≡ payload)) ⊎ (note_of r ≡ Noted signers payload)

module _ (n q sender : ℕ) (faulty : NodeSet) (list : Trace Act) where
  -- the record of a correct node has, after the acts, these signers beside this payload
  pub record Stands (u signers : ℕ) (payload : List ℕ) : Type 0 where
    pub correct_there : correct n faulty u ≡ true
    pub beside : Beside (current_record q list u) signers payload

  -- Only nodes are signers, and the sender is one of them; the bit of a correct node was set by its signing of this payload.
  pub record Worth (signers : ℕ) (payload : List ℕ) : Type 0 where
    pub nodes : within signers n ≡ true
    pub sender_signed : member signers sender ≡ true
    pub signed_by : (v : ℕ) → correct n faulty v ≡ true → member signers v ≡ true → ever q (signs q payload) list v ≡ true

-- R14.22: so it is wherever signers stand beside a payload, held, delivered or noted, at a correct node.
abbrev pub WorthOfSigners : Type 0
WorthOfSigners =
    (n q sender : ℕ) (faulty : NodeSet) (list : Trace Act) → n ≤ 64 → Lawful n q sender faulty list
    → (u signers : ℕ) (payload : List ℕ) → Stands n q sender faulty list u signers payload → Worth n q sender faulty list signers payload

-- No correct node is a signer beside two payloads, at one correct node or at two.
abbrev pub SignsOne : Type 0
SignsOne =
    (n q sender : ℕ) (faulty : NodeSet) (list : Trace Act) → n ≤ 64 → Lawful n q sender faulty list
    → (u w : ℕ) (a b : ℕ) (first second : List ℕ) → Stands n q sender faulty list u a first → Stands n q sender faulty list w b second
    → (v : ℕ) → correct n faulty v ≡ true → member a v ≡ true → member b v ≡ true → first ≡ second

-- So two payloads tell of a sender that is not correct: it signed both.
abbrev pub TwoTellOfSender : Type 0
TwoTellOfSender =
    (n q sender : ℕ) (faulty : NodeSet) (list : Trace Act) → n ≤ 64 → Lawful n q sender faulty list
    → (u w : ℕ) (a b : ℕ) (first second : List ℕ) → Stands n q sender faulty list u a first → Stands n q sender faulty list w b second
    → (first ≡ second → ⊥)
    → (correct n faulty sender ≡ false) × (member a sender ≡ true) × (member b sender ≡ true)

-- And in the slot of a correct sender no correct node notes anything.
abbrev pub CorrectSenderUnnoted : Type 0
CorrectSenderUnnoted =
    (n q sender : ℕ) (faulty : NodeSet) (list : Trace Act) → n ≤ 64 → Lawful n q sender faulty list → correct n faulty sender ≡ true
    → (u : ℕ) → correct n faulty u ≡ true → note_of (current_record q list u) ≡ Nothing
