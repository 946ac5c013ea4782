-- Notes never count, and what they are worth: what specs/Notes.antt claims. The first by the tests of an update, of which the one that asks for the note decides
-- between noted and 24 alone; the second by induction over a trace, beside what GenuineSignatures has of the payload held. Assumes nothing.
use mathlib.Core.Path.{◌≡◌, refl, sym, ap, ap₂, ◌∙◌, subst}
use mathlib.Core.Logic.{inl, inr}
use mathlib.Core.Bool.{Bool, true, false, cond, not, ◌&&◌, ◌||◌, true≢false}
use mathlib.Core.List.{List, [], ◌∷◌}
use Prim.Native.Nat.{ℕ, ◌≤◌}
use native.Mathlib.Omega.{arith}
use lib.Pow.{pow_pos}
use lib.Dec.{ltb, leb, eqb}
use borrow.Author.Tests.{not-false}
use Rattle.octets.specs.Octets.{same}
use Rattle.octets.proofs.Same.{same-says}
use Rattle.signers.specs.Sets.{NodeSet}
use Rattle.signers.specs.Signers.{member, union, size}
use Rattle.signers.proofs.Members.{nobody, lt-within, union_right}
use Rattle.refusal.specs.Outcome.{Outcome, refused, done, unless, after}
use Rattle.protocol.specs.Update.{Note, Nothing, Noted, Record, Empty, Held, Delivered, signers_of, payload_of, note_of, is_empty, noted_signers, notes_other, Update, kept, signed, delivered, noted, update_reasons, joined_signers, update_result, update, Answer, announced, sends, delivers}
use Rattle.protocol.specs.Trace as trace
use Rattle.protocol.specs.Trace.{Trace, start, ◌then◌calls◌}
use Rattle.protocol.specs.OneSlot.{Act, Broadcast, Receive, outcome, record_after, sends_this, delivers_this, current_record, ever, correct, Allowed, Lawful}
use Rattle.protocol.specs.Notes.{held_half, answer_but_noted, answered, sent_by, SameButNotes, NotesNeverCount, forgetting, forgetful_record, ever_forgetful, ForgettingChangesNothing, Beside, Worth, WorthOfSigners, SignsOne, TwoTellOfSender, CorrectSenderUnnoted}
use Rattle.protocol.proofs.CorrectNodes.{correct-below}
use Rattle.protocol.proofs.UpdateCases.{UpdateCase, refusing, broadcasting, signing, signing-and-delivering, joining, completing, replacing, noting}
use Rattle.protocol.proofs.TraceInduction.{NodeView, trace-induction}
use Rattle.protocol.proofs.SignedSoFar.{signs-one-payload}
use Rattle.protocol.proofs.GenuineSignatures.{Genuine, RecordGenuine, allowed-genuine, genuine-grows, genuine-union, record-genuine}

-- ---- it never counts

-- what a bundle comes to at a record with this note, by the tests of an update: the record holds its payload, the node is a signer, the signers are too few,
-- a third payload is noted, and the record's signers are enough then
abbrev comes : (old signers : ℕ) (held payload : List ℕ) (h m few third full : Bool) (note : Note) → Outcome Update
comes old signers held payload h m few third full note =
    cond (m && not h) (refused 23)
    (cond ((not h && few) && third) (refused 24)
    (done
    (cond (not h && few)
    (record { answer = noted; new_record = Held old held (Noted (union (noted_signers note) signers) payload) })
    (cond full
    (record { answer = delivered; new_record = Delivered (cond h (union old signers) signers) payload (cond (not h) (Noted old held) note) })
    (record { answer = kept; new_record = Held (cond h (union old signers) signers) payload (cond (not h) (Noted old held) note) })))))

-- at a record, and at the same record without its note
never-counts : (own q signers : ℕ) (payload : List ℕ) (r : Record)
    → SameButNotes r (held_half r) (update own q signers payload r) (update own q signers payload (held_half r))
unfolding update update_reasons unless update_result joined_signers
never-counts own q signers payload Empty = record { answers = refl; records = refl; sendings = refl }
never-counts own q signers payload (Delivered old held note) = record { answers = refl; records = refl; sendings = refl }
never-counts own q signers payload (Held old held note) =
    go (same held payload) (member signers own) (ltb (size signers) q) (notes_other note payload) (leb q (size (cond (same held payload) (union old signers) signers)))
  where
    go : (h m few third full : Bool)
        → SameButNotes (Held old held note) (Held old held Nothing)
        (comes old signers held payload h m few third full note) (comes old signers held payload h m few false full Nothing)
    go true true few third true = record { answers = refl; records = refl; sendings = refl }
    go true true few third false = record { answers = refl; records = refl; sendings = refl }
    go true false few third true = record { answers = refl; records = refl; sendings = refl }
    go true false few third false = record { answers = refl; records = refl; sendings = refl }
    go false true few third full = record { answers = refl; records = refl; sendings = refl }
    go false false true true full = record { answers = refl; records = refl; sendings = refl }
    go false false true false full = record { answers = refl; records = refl; sendings = refl }
    go false false false third true = record { answers = refl; records = refl; sendings = refl }
    go false false false third false = record { answers = refl; records = refl; sendings = refl }

pub notes-never-count : NotesNeverCount
notes-never-count own q signers payload r other e =
    let a = never-counts own q signers payload r in
    let b = rw (← e) at (never-counts own q signers payload other) in
    record { answers = a.answers ∙ sym b.answers; records = a.records ∙ sym b.records; sendings = a.sendings ∙ sym b.sendings }

-- ---- a node that forgets

-- an act at a record, and at the same record without its note: broadcasting does not look at it
act-same : (q own : ℕ) (act : Act) (r : Record) → SameButNotes r (held_half r) (outcome q own act r) (outcome q own act (held_half r))
unfolding outcome unless
act-same q own (Broadcast payload) Empty = record { answers = refl; records = refl; sendings = refl }
act-same q own (Broadcast payload) (Held old held note) = record { answers = refl; records = refl; sendings = refl }
act-same q own (Broadcast payload) (Delivered old held note) = record { answers = refl; records = refl; sendings = refl }
act-same q own (Receive signers payload) r = never-counts own q signers payload r

module _ (q : ℕ) where
  -- the record that an act leaves, of both
  left-same : (own : ℕ) (act : Act) (r other : Record) → held_half r ≡ other → held_half (record_after q own act r) ≡ forgetting q own act other
  unfolding forgetting record_after
  left-same own act r other e = rw (← e) (act-same q own act r).records

  -- so the records are the same but for notes
  records-same : (list : Trace Act) (u : ℕ) → held_half (current_record q list u) ≡ forgetful_record q list u
  unfolding trace.state
  records-same start u = refl
  records-same (earlier then v calls act) u = go (records-same earlier u) (eqb u v)
    where
      go : held_half (current_record q earlier u) ≡ forgetful_record q earlier u → (b : Bool)
          → held_half (cond b (record_after q u act (current_record q earlier u)) (current_record q earlier u))
          ≡ cond b (forgetting q u act (forgetful_record q earlier u)) (forgetful_record q earlier u)
      go below true = left-same u act (current_record q earlier u) (forgetful_record q earlier u) below
      go below false = below

  -- and a test that does not ask for the note is passed by both
  ever-same : (test : (own : ℕ) (act : Act) (r : Record) → Bool) → ((own : ℕ) (act : Act) (r : Record) → test own act r ≡ test own act (held_half r))
      → (list : Trace Act) (u : ℕ) → ever q test list u ≡ ever_forgetful q test list u
  unfolding trace.ever
  ever-same test blind start u = refl
  ever-same test blind (earlier then v calls act) u =
      ap₂ (λ (b c : Bool). (eqb u v && b) || c) (blind u act (current_record q earlier u) ∙ ap (test u act) (records-same earlier u)) (ever-same test blind earlier u)

  -- what is asked of the bundle that is sent goes by that bundle,
  sent_test : (signers : ℕ) (payload : List ℕ) → List (ℕ × List ℕ) → Bool
  sent_test signers payload [] = false
  sent_test signers payload (sent ∷ rest) = eqb sent.0 signers && same sent.1 payload

  sends-by : (signers : ℕ) (payload : List ℕ) (o : Outcome Update)
      → after o (λ result. sends result.answer && (eqb (signers_of result.new_record) signers && same (payload_of result.new_record) payload)) false
      ≡ sent_test signers payload (sent_by o)
  unfolding sent_test
  sends-by signers payload (refused number) = refl
  sends-by signers payload (done result) = go (sends result.answer)
    where
      go : (b : Bool)
          → (b && (eqb (signers_of result.new_record) signers && same (payload_of result.new_record) payload))
          ≡ sent_test signers payload (cond b ((signers_of result.new_record, payload_of result.new_record) ∷ []) [])
      go true = refl
      go false = refl

  -- and of what is delivered by the answer and that bundle
  payload_test : (payload : List ℕ) → List (ℕ × List ℕ) → Bool
  payload_test payload [] = false
  payload_test payload (sent ∷ rest) = same sent.1 payload

  delivers-by : (payload : List ℕ) (o : Outcome Update)
      → after o (λ result. delivers result.answer && same (payload_of result.new_record) payload) false
      ≡ (after (answered o) delivers false && payload_test payload (sent_by o))
  unfolding payload_test
  delivers-by payload (refused number) = refl
  delivers-by payload (done result) = go result.answer
    where
      go : (answer : Answer)
          → (delivers answer && same (payload_of result.new_record) payload)
          ≡ (after (answer_but_noted answer) delivers false
          && payload_test payload (cond (sends answer) ((signers_of result.new_record, payload_of result.new_record) ∷ []) []))
      go announced = refl
      go kept = refl
      go signed = refl
      go delivered = refl
      go noted = refl

pub forgetting-changes-nothing : ForgettingChangesNothing
unfolding sends_this delivers_this
forgetting-changes-nothing q list u = (
  records-same q list u,
  λ signers payload. ever-same q (sends_this q signers payload)
      (λ own act r.
      sends-by q signers payload (outcome q own act r)
      ∙ ap (sent_test q signers payload) (act-same q own act r).sendings
      ∙ sym (sends-by q signers payload (outcome q own act (held_half r)))) list u,
  λ payload. ever-same q (delivers_this q payload)
      (λ own act r.
      delivers-by q payload (outcome q own act r)
      ∙ ap₂ (λ (o : Outcome Answer) (sent : List (ℕ × List ℕ)). after o delivers false && payload_test q payload sent) (act-same q own act r).answers
      (act-same q own act r).sendings
      ∙ sym (delivers-by q payload (outcome q own act (held_half r)))) list u,
)

-- ---- what it is worth

module _ (n q sender : ℕ) (faulty : NodeSet) (fits : n ≤ 64) where
  -- what is noted has genuine signatures, the sender's among them
  abbrev NoteGenuine : (trace : Trace Act) → Note → Type 0
  NoteGenuine trace Nothing = Unit
  NoteGenuine trace (Noted signers payload) = Genuine n q sender faulty trace signers payload × (member signers sender ≡ true)

  module _ (earlier : Trace Act) (caller : ℕ) (act : Act) where
    -- what is noted stays so after one act more,
    note-grows : (note : Note) → NoteGenuine earlier note → NoteGenuine (earlier then caller calls act) note
    note-grows Nothing before = tt
    note-grows (Noted signers payload) (genuine, has-sender) = (genuine-grows n q sender faulty earlier caller act signers payload genuine, has-sender)

    -- and with the signers of a bundle that may be received
    note-joins : (signers : ℕ) (payload : List ℕ) (note : Note) → Allowed n q sender faulty earlier caller (Receive signers payload)
        → notes_other note payload ≡ false → NoteGenuine earlier note
        → NoteGenuine (earlier then caller calls act) (Noted (union (noted_signers note) signers) payload)
    note-joins signers payload note a known before = (
      genuine-union n q sender faulty earlier caller act (noted_signers note) signers payload (so-far note known before)
          (allowed-genuine n q sender faulty earlier caller signers payload a),
      union_right (noted_signers note) signers sender a.1,
    )
      where
        so-far : (note : Note) → notes_other note payload ≡ false → NoteGenuine earlier note → Genuine n q sender faulty earlier (noted_signers note) payload
        so-far Nothing known before = record { inside = lt-within 0 n (pow_pos n); signed = λ v c m. absurd (true≢false (sym m ∙ nobody v)) }
        so-far (Noted old first) known (genuine, has-sender) =
            subst (Genuine n q sender faulty earlier old) (same-says first payload (not-false (same first payload) known)) genuine

  note_step : (earlier : Trace Act) (u caller : ℕ) (act : Act) (r : Record) (o : Outcome Update)
      → UpdateCase q u caller act r o → NodeView q earlier u caller act r o
      → Lawful n q sender faulty (earlier then caller calls act) → correct n faulty u ≡ true
      → NoteGenuine earlier (note_of r) → NoteGenuine (earlier then caller calls act) (note_of (after o (λ result. result.new_record) r))
  note_step earlier u caller act r o (refusing why) view l c before = note-grows earlier caller act (note_of r) before
  note_step earlier u caller act r o (broadcasting own) view l c before = tt
  note_step earlier u caller act r o (signing absent few) view l c before = tt
  note_step earlier u caller act r o (signing-and-delivering absent enough) view l c before = tt
  note_step earlier u caller act r o (joining {note = note} few) view l c before = note-grows earlier caller act note before
  note_step earlier u caller act r o (completing {note = note} enough) view l c before = note-grows earlier caller act note before
  note_step earlier u caller act r o (replacing {old = old} {held = held} other absent enough) view l c before =
      let k = rw view.found at (record-genuine n q sender faulty fits earlier u l.0 c) in
      (genuine-grows n q sender faulty earlier caller act old held k.genuine, k.has-sender)
  note_step earlier u caller act r o (noting {signers = signers} {payload = payload} {note = note} other few known) view l c before =
      note-joins earlier caller act signers payload note l.2 known before

  -- so it is at every correct node after every lawful trace
  note-genuine : (trace : Trace Act) (u : ℕ) → Lawful n q sender faulty trace → correct n faulty u ≡ true → NoteGenuine trace (note_of (current_record q trace u))
  note-genuine =
      trace-induction q (λ trace u r. Lawful n q sender faulty trace → correct n faulty u ≡ true → NoteGenuine trace (note_of r))
      (λ u l c. tt)
      (λ earlier u caller act r o kind view below l c. note_step earlier u caller act r o kind view l c (below l.0 c))

  -- either half of a record
  beside-worth : (trace : Trace Act) (u : ℕ) (r : Record) (signers : ℕ) (payload : List ℕ) → RecordGenuine n q sender faulty trace u r → NoteGenuine trace (note_of r)
      → Beside r signers payload → Worth n q sender faulty trace signers payload
  beside-worth trace u r signers payload k s (inr e) =
      let (genuine, has-sender) = rw e at s in
      record { nodes = genuine.inside; sender_signed = has-sender; signed_by = genuine.signed }
  beside-worth trace u Empty signers payload k s (inl (some, a, b)) = absurd (true≢false some)
  beside-worth trace u (Held old held note) signers payload k s (inl (some, a, b)) =
      rw (← a, ← b) (record { nodes = k.genuine.inside; sender_signed = k.has-sender; signed_by = k.genuine.signed })
  beside-worth trace u (Delivered old held note) signers payload k s (inl (some, a, b)) =
      rw (← a, ← b) (record { nodes = k.genuine.inside; sender_signed = k.has-sender; signed_by = k.genuine.signed })

pub worth-of-signers : WorthOfSigners
worth-of-signers n q sender faulty list fits lawful u signers payload stands =
    beside-worth n q sender faulty fits list u (current_record q list u) signers payload
    (record-genuine n q sender faulty fits list u lawful stands.correct_there) (note-genuine n q sender faulty fits list u lawful stands.correct_there)
    stands.beside

pub signs_one : SignsOne
signs_one n q sender faulty list fits lawful u w a b first second at-u at-w v c in-a in_b =
    let x = worth-of-signers n q sender faulty list fits lawful u a first at-u in
    let y = worth-of-signers n q sender faulty list fits lawful w b second at-w in
    signs-one-payload q list v (omega (arith, correct-below n faulty v c)) first second (x.signed_by v c in-a) (y.signed_by v c in_b)

pub two-tell-of-sender : TwoTellOfSender
two-tell-of-sender n q sender faulty list fits lawful u w a b first second at-u at-w differ =
    (go (correct n faulty sender) refl, x.sender_signed, y.sender_signed)
  where
    x : Worth n q sender faulty list a first
    x = worth-of-signers n q sender faulty list fits lawful u a first at-u

    y : Worth n q sender faulty list b second
    y = worth-of-signers n q sender faulty list fits lawful w b second at-w

    go : (g : Bool) → correct n faulty sender ≡ g → g ≡ false
    go true c = absurd (differ (signs_one n q sender faulty list fits lawful u w a b first second at-u at-w sender c x.sender_signed y.sender_signed))
    go false c = refl

-- what is noted is another payload than the record's, on every trace
abbrev Another : (held : List ℕ) → Note → Type 0
Another held Nothing = Unit
Another held (Noted signers payload) = held ≡ payload → ⊥

another-step : (q u caller : ℕ) (act : Act) (r : Record) (o : Outcome Update) → UpdateCase q u caller act r o → Another (payload_of r) (note_of r)
    → Another (payload_of (after o (λ result. result.new_record) r)) (note_of (after o (λ result. result.new_record) r))
another-step q u caller act r o (refusing why) before = before
another-step q u caller act r o (broadcasting own) before = tt
another-step q u caller act r o (signing absent few) before = tt
another-step q u caller act r o (signing-and-delivering absent enough) before = tt
another-step q u caller act r o (joining few) before = before
another-step q u caller act r o (completing enough) before = before
another-step q u caller act r o (replacing other absent enough) before = λ e. other (sym e)
another-step q u caller act r o (noting other few known) before = other

notes-another : (q : ℕ) (trace : Trace Act) (u : ℕ) → Another (payload_of (current_record q trace u)) (note_of (current_record q trace u))
notes-another q =
    trace-induction q (λ trace u r. Another (payload_of r) (note_of r)) (λ u. tt)
    (λ earlier u caller act r o kind view below. another-step q u caller act r o kind below)

pub correct-sender-unnoted : CorrectSenderUnnoted
correct-sender-unnoted n q sender faulty list fits lawful good u c = go (current_record q list u) refl (notes-another q list u)
  where
    -- the payload of a record and another one beside it tell of a faulty sender
    noted-false : (r : Record) → current_record q list u ≡ r → is_empty r ≡ false → (signers : ℕ) (payload : List ℕ) → note_of r ≡ Noted signers payload
        → (payload_of r ≡ payload → ⊥) → ⊥
    noted-false r is some signers payload e other =
        true≢false
        (sym good
        ∙ (two-tell-of-sender n q sender faulty list fits lawful u u (signers_of r) signers (payload_of r) payload
        (record { correct_there = c; beside = rw is (inl (some, refl, refl)) }) (record { correct_there = c; beside = rw is (inr e) }) other).0)

    by-note : (r : Record) → current_record q list u ≡ r → is_empty r ≡ false → (note : Note) → note_of r ≡ note → Another (payload_of r) note → note ≡ Nothing
    by-note r is some Nothing e other = refl
    by-note r is some (Noted signers payload) e other = absurd (noted-false r is some signers payload e other)

    go : (r : Record) → current_record q list u ≡ r → Another (payload_of (current_record q list u)) (note_of (current_record q list u))
        → note_of (current_record q list u) ≡ Nothing
    go Empty is other = ap note_of is
    go (Held signers payload note) is other =
        ap note_of is ∙ by-note (Held signers payload note) is refl note refl (rw is at other)
    go (Delivered signers payload note) is other =
        ap note_of is ∙ by-note (Delivered signers payload note) is refl note refl (rw is at other)
