-- What a node keeps of a slot (R4.1), and what broadcasting (R7.3) and receiving (RULES section 8) do to it, on values. Lengths, days, places and the bytes
-- of bundles and records do not occur here. `own` is the node and `q` the quorum.
-- Assumes nothing.
use Rattle.std.specs.Prelude.{Bool, true, false, cond, not, ◌&&◌, List, [], ◌∷◌, ℕ, ltb, leb}
use Rattle.octets.specs.Octets.{same}
use Rattle.signers.specs.Signers.{member, insert, union, size}
use Rattle.refusal.specs.Outcome.{Outcome, Reason, ◌if◌, unless}

-- R4.7: what a record notes beside the payload that it holds: nothing, or another payload with the signers seen for it.
pub data Note : Type 0 where
  Nothing : Note
  Noted : (signers : ℕ) (payload : List ℕ) → Note

-- R4.1: a record by its state. An empty one has neither signers nor payload, and notes nothing (R4.5).
pub data Record : Type 0 where
  Empty : Record
  Held : (signers : ℕ) (payload : List ℕ) (note : Note) → Record
  Delivered : (signers : ℕ) (payload : List ℕ) (note : Note) → Record

abbrev pub signers_of : Record → ℕ
signers_of Empty = 0
signers_of (Held signers payload note) = signers
signers_of (Delivered signers payload note) = signers

abbrev pub payload_of : Record → List ℕ
payload_of Empty = []
payload_of (Held signers payload note) = payload
payload_of (Delivered signers payload note) = payload

abbrev pub note_of : Record → Note
note_of Empty = Nothing
note_of (Held signers payload note) = note
note_of (Delivered signers payload note) = note

abbrev pub is_empty : Record → Bool
is_empty Empty = true
is_empty (Held signers payload note) = false
is_empty (Delivered signers payload note) = false

abbrev pub is_delivered : Record → Bool
is_delivered Empty = false
is_delivered (Held signers payload note) = false
is_delivered (Delivered signers payload note) = true

-- The record holds this payload. An empty record holds none.
abbrev pub holds : (r : Record) (payload : List ℕ) → Bool
holds Empty payload = false
holds (Held signers first note) payload = same first payload
holds (Delivered signers first note) payload = same first payload

-- The record holds a payload, and it is another one.
abbrev pub holds_other : (r : Record) (payload : List ℕ) → Bool
holds_other r payload = not (is_empty r) && not (holds r payload)

-- the signers of what is noted
abbrev pub noted_signers : Note → ℕ
noted_signers Nothing = 0
noted_signers (Noted signers payload) = signers

-- This payload is noted; another one is.
abbrev pub notes : (note : Note) (payload : List ℕ) → Bool
notes Nothing payload = false
notes (Noted signers first) payload = same first payload

abbrev pub notes_other : (note : Note) (payload : List ℕ) → Bool
notes_other Nothing payload = false
notes_other (Noted signers first) payload = not (same first payload)

-- the record with another note; an empty one has none
abbrev pub with_note : (note : Note) → Record → Record
with_note note Empty = Empty
with_note note (Held signers payload old) = Held signers payload note
with_note note (Delivered signers payload old) = Delivered signers payload note

-- What a node answers to a call that is not refused: announced to a broadcast (R7.3), one of the other four to a bundle (R8.6, R8.14).
pub data Answer : Type 0 where
  announced : Answer
  kept : Answer
  signed : Answer
  delivered : Answer
  noted : Answer

-- R14.9: the answers with which a bundle is sent; kept and noted are not among them (R8.7).
abbrev pub sends : Answer → Bool
sends announced = true
sends kept = false
sends signed = true
sends delivered = true
sends noted = false

abbrev pub delivers : Answer → Bool
delivers announced = false
delivers kept = false
delivers signed = false
delivers delivered = true
delivers noted = false

-- R8.8: the signers that are counted with the answer: those of the record, and with noted those of its note.
abbrev pub counted_signers : Answer → Record → ℕ
counted_signers announced r = signers_of r
counted_signers kept r = signers_of r
counted_signers signed r = signers_of r
counted_signers delivered r = signers_of r
counted_signers noted r = noted_signers (note_of r)

-- What a call that is not refused does to a slot: its answer, and the slot's record after it.
pub record Update : Type 0 where
  pub answer : Answer
  pub new_record : Record

-- R7.3: the record of a payload that the node has just broadcast: held, with the node as its only signer, and nothing noted.
unfoldable pub announced_by : (own : ℕ) (payload : List ℕ) → Record
announced_by own payload = Held (insert 0 own) payload Nothing

-- A bundle with these signers and this payload, received by a node whose record of the slot is r.
module _ (own q : ℕ) (signers : ℕ) (payload : List ℕ) (r : Record) where
  -- the bundle has another payload than the one that r holds, and no quorum of signers
  abbrev pub other_without_quorum : Bool
  other_without_quorum = holds_other r payload && ltb (size signers) q

  -- R5.5: 22, the slot is delivered here; 23, the node is a signer of the bundle, and r does not hold its payload; 24, r holds another payload and notes a
  -- third, and the bundle has no quorum of signers
  unfoldable pub update_reasons : List Reason
  update_reasons =
      (22 if is_delivered r)
      ∷ (23 if member signers own && not (holds r payload))
      ∷ (24 if other_without_quorum && notes_other (note_of r) payload)
      ∷ []

  -- R8.14: what is noted of a second payload: its signers so far and those of the bundle, each once
  abbrev pub joined_note : Note
  joined_note = Noted (union (noted_signers (note_of r)) signers) payload

  -- The signers of the record after the bundle: of an empty record those of the bundle and the node itself (R8.2), of one with this payload those of both, each
  -- once (R8.3), of one with another payload those of the bundle (R8.4). In the last case the node is not among them: 23 refuses such a bundle.
  unfoldable pub joined_signers : ℕ
  joined_signers = cond (is_empty r) (insert signers own) (cond (holds r payload) (union (signers_of r) signers) signers)

  -- What the record notes then: where it held another payload that one, over any note (R8.16), and else what it noted.
  abbrev pub note_after : Note
  note_after = cond (holds_other r payload) (Noted (signers_of r) (payload_of r)) (note_of r)

  -- Answer and record, where no reason to refuse applies: noted, which leaves the rest of the record (R8.14); delivered with a quorum of signers (R8.5), and
  -- else held; then the answer is signed or kept (R8.6).
  unfoldable pub update_result : Update
  update_result =
      cond other_without_quorum (record { answer = noted; new_record = with_note joined_note r })
      (cond (leb q (size joined_signers))
      (record { answer = delivered; new_record = Delivered joined_signers payload note_after })
      (record { answer = cond (is_empty r) signed kept; new_record = Held joined_signers payload note_after }))

  -- R8.2 to R8.6, R8.14 and R8.16, after 22, 23 and 24: what receiving the bundle comes to, where reading has accepted it and the record is well-formed.
  unfoldable pub update : Outcome Update
  update = unless update_reasons update_result
