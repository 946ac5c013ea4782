-- How receiving differs from Algorithm 1, each difference a law of its own: of one update, and of a trace of acts in one slot. specs/Algorithm.antt has the
-- same differences as functions beside the article's lines. They are proved in proofs/Differences.antt.
-- Assumes nothing.
use Rattle.std.specs.Prelude.{◌≡◌, ◌⊎◌, Bool, true, false, ◌&&◌, List, [], ◌∷◌, ℕ, ◌≤◌, ◌<◌, leb}
use Rattle.signers.specs.Signers.{member, insert, union, size}
use Rattle.refusal.specs.Outcome.{done}
use Rattle.protocol.specs.Update.{Note, Nothing, Noted, Record, Empty, Held, Delivered, signers_of, payload_of, note_of, holds_other, noted_signers, with_note, Update, delivered, noted, delivers, update}
use Rattle.protocol.specs.Trace.{Trace}
use Rattle.protocol.specs.Algorithm.{broadcast, deliver, at_least, on_bundle, state_of, effects_of}
use Rattle.protocol.specs.OneSlot.{Act, Broadcast, Receive, signs, delivers_this, current_record, ever}

-- ---- one update

-- R8.4, R8.16, R13.3: a record that holds a payload takes another one only from a single bundle that brings a quorum for it. That one is then delivered, with
-- the signers of this bundle and no others, and what was held is noted. R8.14: with fewer signers it is noted, and the rest of the record stays.
abbrev pub OtherNeedsQuorum : Type 0
OtherNeedsQuorum =
    (own q signers : ℕ) (payload : List ℕ) (r : Record) (result : Update)
    → update own q signers payload r ≡ done result → holds_other r payload ≡ true
    → ((q ≤ size signers) × (result ≡ record { answer = delivered; new_record = Delivered signers payload (Noted (signers_of r) (payload_of r)) }))
    ⊎ ((size signers < q) × (result ≡ record { answer = noted; new_record = with_note (Noted (union (noted_signers (note_of r)) signers) payload) r }))

-- R13.4: a node that signs and delivers in one step sends one bundle. The algorithm sends that bundle twice, at lines 7 and 10.
abbrev pub OneBundleForBoth : Type 0
OneBundleForBoth =
    (own q sender signers : ℕ) (payload : List ℕ) (result : Update) → member signers sender ≡ true
    → update own q signers payload Empty ≡ done result → delivers result.answer ≡ true
    → (result ≡ record { answer = delivered; new_record = Delivered (insert signers own) payload Nothing })
    × (effects_of result ≡ broadcast (insert signers own) payload ∷ deliver payload ∷ [])
    × ((on_bundle own (at_least q) sender payload signers (state_of Empty)).effects
    ≡ broadcast (insert signers own) payload ∷ broadcast (insert signers own) payload ∷ deliver payload ∷ [])

-- ---- a trace

module _ (q : ℕ) where
  -- the bundle that is received has a quorum of signers by itself
  unfoldable pub brings_quorum : (act : Act) → Bool
  brings_quorum (Broadcast payload) = false
  brings_quorum (Receive signers payload) = leb q (size signers)

  -- the node delivers this payload by such a bundle
  unfoldable pub delivers_at_once : (payload : List ℕ) (own : ℕ) (act : Act) (r : Record) → Bool
  delivers_at_once payload own act r = delivers_this q payload own act r && brings_quorum act

-- R13.2: a node holds one payload of a slot, the one that it signed there: it signs no second one, an empty record means that it signed none, a held one
-- that it signed the payload held, and a delivered one that it signed some payload.
pub record HoldsSigned (q : ℕ) (list : Trace Act) (u : ℕ) (r : Record) : Type 0 where
  pub signs_one : (first second : List ℕ) → ever q (signs q first) list u ≡ true → ever q (signs q second) list u ≡ true → first ≡ second
  pub empty : r ≡ Empty → (payload : List ℕ) → ever q (signs q payload) list u ≡ false
  pub held : (signers : ℕ) (payload : List ℕ) (note : Note) → r ≡ Held signers payload note → ever q (signs q payload) list u ≡ true
  pub delivered : (signers : ℕ) (payload : List ℕ) (note : Note) → r ≡ Delivered signers payload note → (signed : List ℕ) × (ever q (signs q signed) list u ≡ true)

-- On every trace, also where signatures are forged: a node below 64 has a bit.
abbrev pub OnePayloadHeld : Type 0
OnePayloadHeld = (q : ℕ) (list : Trace Act) (u : ℕ) → u < 64 → HoldsSigned q list u (current_record q list u)

-- R13.3: a payload that a node delivered and did not sign came to it in a single bundle with a quorum.
abbrev pub OtherAtOnce : Type 0
OtherAtOnce =
    (q : ℕ) (list : Trace Act) (u : ℕ) (payload : List ℕ) → u < 64
    → ever q (delivers_this q payload) list u ≡ true → ever q (signs q payload) list u ≡ false
    → ever q (delivers_at_once q payload) list u ≡ true
