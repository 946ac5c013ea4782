-- R13.1: Algorithm 1 of the article, "Asynchronous Byzantine reliable broadcast with a message adversary", under the article's line numbers, for one slot
-- (sn, j) at process p_i; then where we differ (R13.2 to R13.4, R13.8, R13.9), each difference a function; then what is claimed of them (R13.6, R13.7). `own` is i,
-- `sender` is j, `m` the app-message, and `enough` line 9's test of how many signatures are saved. It is proved in proofs/Algorithm.antt.
-- Assumes nothing.
use Rattle.std.specs.Prelude.{◌≡◌, ◌⊎◌, Bool, true, false, cond, not, ◌&&◌, List, [], ◌∷◌, ◌++◌, ℕ, ◌+◌, ◌/◌, ◌<◌, leb, ltb, eqb}
use Rattle.octets.specs.Octets.{same}
use Rattle.signers.specs.Signers.{member, insert, without, union, size}
use Rattle.refusal.specs.Outcome.{Outcome, refused, done}
use Rattle.protocol.specs.Update.{Record, Empty, Held, Delivered, signers_of, payload_of, note_of, is_empty, is_delivered, holds, holds_other, noted_signers, notes, notes_other, noted, Update, sends, delivers, announced_by, update}

-- ---- the article's algorithm

-- What p_i keeps of the slot: for each message the signers whose signature is saved, whether p_i has signed a message of the slot, and whether it
-- has delivered one.
pub record State : Type 0 where
  pub saved : List ℕ → ℕ
  pub has_signed : Bool
  pub has_delivered : Bool

-- What p_i does that others see: it broadcasts a BUNDLE, or it mbrb-delivers a message.
pub data Effect : Type 0 where
  broadcast : (sigs : ℕ) (m : List ℕ) → Effect
  deliver : (m : List ℕ) → Effect

-- The state after a part of the algorithm, and what that part did.
pub record Run : Type 0 where
  pub state : State
  pub effects : List Effect

-- the signatures of `sigs` for m are saved, beside those that were saved before
unfoldable pub save : (m : List ℕ) (sigs : ℕ) (σ : State) → State
save m sigs σ = record {
  saved = λ x. cond (same x m) (union (σ.saved x) sigs) (σ.saved x);
  has_signed = σ.has_signed;
  has_delivered = σ.has_delivered;
}

-- p_i saves its own signature for m, and has then signed in the slot
unfoldable pub sign : (own : ℕ) (m : List ℕ) (σ : State) → State
sign own m σ = record { saved = (save m (insert 0 own) σ).saved; has_signed = true; has_delivered = σ.has_delivered }

-- the BUNDLE of m with every signature that is saved for m
unfoldable pub bundle_effect : (m : List ℕ) (σ : State) → Effect
bundle_effect m σ = broadcast (σ.saved m) m

-- operation mbrb_broadcast(m, sn): lines 1 and 2
unfoldable pub on_broadcast : (own : ℕ) (m : List ℕ) (σ : State) → Run
on_broadcast own m σ = record { state = sign own m σ; effects = bundle_effect m (sign own m σ) ∷ [] }

-- line 9's test in the article: strictly more than (n + t)/2 signatures
abbrev pub more_than_half : (n t : ℕ) → (signatures : ℕ) → Bool
more_than_half n t signatures = ltb (n + t) (signatures + signatures)

-- The signatures of `sigs` that are valid for p_i. A set bit of another process is a signature that the key chip found valid (R1.2); the one of p_i itself
-- counts only if p_i has saved it for m.
unfoldable pub valid : (own : ℕ) (m : List ℕ) (sigs : ℕ) (σ : State) → ℕ
valid own m sigs σ = cond (member sigs own && not (member (σ.saved m) own)) (without sigs own) sigs

module _ (own : ℕ) (enough : ℕ → Bool) (sender : ℕ) (m : List ℕ) where
  -- lines 9 to 12: where enough signatures are saved for m, p_i broadcasts the BUNDLE of m and delivers m
  unfoldable pub line9 : (σ : State) → Run
  line9 σ =
      cond (enough (size (σ.saved m)))
      (record {
        state = record { saved = σ.saved; has_signed = σ.has_signed; has_delivered = true };
        effects = bundle_effect m σ ∷ deliver m ∷ [];
      })
      (record { state = σ; effects = [] })

  -- lines 5 to 8: where p_i has not signed in the slot, it signs m and broadcasts the BUNDLE of m
  unfoldable pub line5 : (σ : State) → Run
  line5 σ = cond σ.has_signed (record { state = σ; effects = [] }) (record { state = sign own m σ; effects = bundle_effect m (sign own m σ) ∷ [] })

  -- line 9 after what is before it
  unfoldable pub and_line9 : (r : Run) → Run
  and_line9 r = record { state = (line9 r.state).state; effects = r.effects ++ (line9 r.state).effects }

  -- a BUNDLE of m with `sigs` comes in, lines 3 to 13: where nothing is delivered in the slot and the valid signature of p_j is among `sigs`, line 4 saves the
  -- valid ones, and lines 5 to 12 follow
  unfoldable pub on_bundle : (sigs : ℕ) (σ : State) → Run
  on_bundle sigs σ =
      cond (not σ.has_delivered && member (valid own m sigs σ) sender) (and_line9 (line5 (save m (valid own m sigs σ) σ))) (record { state = σ; effects = [] })

-- ---- where we differ

-- R13.2: of the saved signatures those for one message are counted, and the others are not. So another message starts with none, and has to bring its quorum
-- in one bundle (R13.3). Those for a second message are noted apart (`apart_of`), and those for a third dropped.
unfoldable pub keep_one : (m : List ℕ) (σ : State) → State
keep_one m σ = record { saved = λ x. cond (same m x) (σ.saved x) 0; has_signed = σ.has_signed; has_delivered = σ.has_delivered }

-- R13.4: of two like bundles, one right after the other, one is sent.
unfoldable pub send_once : List Effect → List Effect
send_once [] = []
send_once (deliver m ∷ rest) = deliver m ∷ send_once rest
send_once (broadcast sigs m ∷ []) = broadcast sigs m ∷ []
send_once (broadcast sigs m ∷ deliver x ∷ rest) = broadcast sigs m ∷ deliver x ∷ send_once rest
send_once (broadcast sigs m ∷ broadcast others x ∷ rest) =
    cond (eqb sigs others && same m x) (send_once (broadcast others x ∷ rest)) (broadcast sigs m ∷ send_once (broadcast others x ∷ rest))

-- R13.8: line 9 asks for the quorum q that the site chose.
abbrev pub at_least : (q : ℕ) → (signatures : ℕ) → Bool
at_least q = leb q

-- R13.7: with the least quorum that is the article's line 9, test for test, and so the article's algorithm.
abbrev pub LeastQuorumIsLine9 : Type 0
LeastQuorumIsLine9 = (n t : ℕ) → at_least ((n + t) / 2 + 1) ≡ more_than_half n t

-- R13.8: line 9 with q is the article's, or it waits: more than (n + t)/2 signatures are saved for m, with which the article's p_i would broadcast the BUNDLE
-- and deliver m, but fewer than q. No other line asks how many are saved.
abbrev pub SameOrWaits : (own n t q sender : ℕ) (m : List ℕ) (σ : State) → Type 0
SameOrWaits own n t q sender m σ =
    (line9 own (at_least q) sender m σ ≡ line9 own (more_than_half n t) sender m σ)
    ⊎ ((more_than_half n t (size (σ.saved m)) ≡ true)
    × (size (σ.saved m) < q)
    × (line9 own (at_least q) sender m σ ≡ record { state = σ; effects = [] }))

abbrev pub StricterQuorumWaits : Type 0
StricterQuorumWaits = (own n t q sender : ℕ) (m : List ℕ) (σ : State) → n + t < q + q → SameOrWaits own n t q sender m σ

-- ---- a record as the algorithm's state, and an update as its effects

unfoldable pub state_of : Record → State
state_of r = record { saved = λ x. cond (holds r x) (signers_of r) 0; has_signed = not (is_empty r); has_delivered = is_delivered r }

-- R13.9: what is noted of a second message is kept apart. It is no part of the state above, so that no line counts it.
unfoldable pub apart_of : Record → State
apart_of r = record { saved = λ x. cond (notes (note_of r) x) (noted_signers (note_of r)) 0; has_signed = not (is_empty r); has_delivered = is_delivered r }

unfoldable pub effects_of : Update → List Effect
effects_of result =
    cond (sends result.answer) (broadcast (signers_of result.new_record) (payload_of result.new_record) ∷ []) []
    ++ cond (delivers result.answer) (deliver (payload_of result.new_record) ∷ []) []

-- Two states are the same: the same signatures for every message, signed and delivered alike.
pub record SameState (a b : State) : Type 0 where
  pub alike : (x : List ℕ) → a.saved x ≡ b.saved x
  pub signed_alike : a.has_signed ≡ b.has_signed
  pub delivered_alike : a.has_delivered ≡ b.has_delivered

-- R13.1: broadcasting on an empty record does what mbrb_broadcast does.
abbrev pub BroadcastFollows : Type 0
BroadcastFollows =
    (own : ℕ) (m : List ℕ)
    → SameState (state_of (announced_by own m)) (on_broadcast own m (state_of Empty)).state
    × ((on_broadcast own m (state_of Empty)).effects ≡ broadcast (signers_of (announced_by own m)) m ∷ [])

-- What receiving a bundle comes to, beside what the algorithm does with the bundle on the same state.
module _ (own : ℕ) (enough : ℕ → Bool) (sender sigs : ℕ) (m : List ℕ) (r : Record) where
  abbrev run : Run
  run = on_bundle own enough sender m sigs (state_of r)

  -- What p_i has saved for m once it has passed over the signature of its own that it has not saved: those of the others, and its own where it signs now.
  abbrev pub saved_passing_over : ℕ
  saved_passing_over = cond (is_empty r) (insert (without sigs own) own) (without sigs own)

  -- And what it does: nothing where that signature is the one of p_j, which is p_i itself then, since line 3 fails; else it signs and broadcasts, if it has
  -- signed nothing in the slot, and broadcasts and delivers, if it has enough then.
  abbrev pub PassesOver : Type 0
  PassesOver =
      ((sender ≡ own) × SameState run.state (state_of r) × (run.effects ≡ []))
      ⊎ ((sender ≡ own → ⊥)
      × (run.state.saved m ≡ saved_passing_over)
      × ((x : List ℕ) → same x m ≡ false → run.state.saved x ≡ (state_of r).saved x)
      × (run.state.has_signed ≡ true)
      × (run.state.has_delivered ≡ enough (size saved_passing_over))
      × (run.effects
      ≡ cond (is_empty r) (broadcast saved_passing_over m ∷ []) []
      ++ cond (enough (size saved_passing_over)) (broadcast saved_passing_over m ∷ deliver m ∷ []) []))

  -- R13.1, done and not answered noted: if the record held another message, the algorithm delivers this one now. Of its state what is saved for this message is
  -- counted (R13.2): it is the message held before, or the first, or the one delivered now. What is sent is what the algorithm sends, without the repeated
  -- bundle (R13.4), and what is delivered is what it delivers. If another message was held, what the algorithm has saved for it is kept apart now; otherwise
  -- what was kept apart stays.
  abbrev pub Counts : Update → Type 0
  Counts result =
      (result.answer ≡ noted → ⊥)
      × ((holds_other r m && not run.state.has_delivered) ≡ false)
      × SameState (state_of result.new_record) (keep_one m run.state)
      × (effects_of result ≡ send_once run.effects)
      × ((x : List ℕ) → (apart_of result.new_record).saved x ≡ (cond (holds_other r m) (keep_one (payload_of r) run.state) (apart_of r)).saved x)

  -- R13.9, noted: there are not enough for line 9. The algorithm saves the signatures for another message (line 4) and does nothing else. We do the same on
  -- what is kept apart, and what is counted stays; nothing is sent.
  abbrev pub Notes : Update → Type 0
  Notes result =
      (result.answer ≡ noted)
      × (holds_other r m ≡ true)
      × (notes_other (note_of r) m ≡ false)
      × SameState run.state (save m sigs (state_of r))
      × (run.effects ≡ [])
      × SameState (state_of result.new_record) (state_of r)
      × (effects_of result ≡ [])
      × SameState (apart_of result.new_record) (save m sigs (apart_of r))

  -- R13.1. Done: the slot was not delivered, and the bundle counts or is noted. Refused (R13.6):
  -- 22: line 3 fails, and the algorithm does nothing either.
  -- 23: nothing is delivered, and the bundle has a signature of p_i for m that p_i has not saved. The algorithm passes over that one, since it is not
  -- valid, and goes on with the others; we refuse the bundle. Where no signature is forged there is no such bundle (system's `NeverOwnUnknown`).
  -- 24: as where it is noted, the algorithm saves the signatures for another message (line 4) and does nothing else. A third message is noted already, and
  -- we drop them.
  abbrev pub Follows : Outcome Update → Type 0
  Follows (done result) = (is_delivered r ≡ false) × (Counts result ⊎ Notes result)
  Follows (refused number) =
      ((number ≡ 22) × ((state_of r).has_delivered ≡ true) × SameState run.state (state_of r) × (run.effects ≡ []))
      ⊎ ((number ≡ 23) × (is_delivered r ≡ false) × (member sigs own ≡ true) × (member ((state_of r).saved m) own ≡ false) × PassesOver)
      ⊎ ((number ≡ 24)
      × (is_delivered r ≡ false)
      × (holds_other r m ≡ true)
      × (notes_other (note_of r) m ≡ true)
      × SameState run.state (save m sigs (state_of r))
      × (run.effects ≡ []))

-- R13.6, of 8: where the sender's signature is missing line 3 fails, and the algorithm does nothing.
abbrev pub UnsignedIgnored : Type 0
UnsignedIgnored =
    (own : ℕ) (enough : ℕ → Bool) (sender sigs : ℕ) (m : List ℕ) (σ : State) → member sigs sender ≡ false
    → SameState (on_bundle own enough sender m sigs σ).state σ × ((on_bundle own enough sender m sigs σ).effects ≡ [])

-- a held record has the node's own signature
abbrev pub HasOwn : (own : ℕ) → Record → Type 0
HasOwn own Empty = Unit
HasOwn own (Held signers payload note) = member signers own ≡ true
HasOwn own (Delivered signers payload note) = Unit

-- R13.1: receiving follows the algorithm whose line 9 asks for the same quorum, for a bundle that has its sender's signature and a record that has the node's own
-- if it is held.
abbrev pub UpdateFollows : Type 0
UpdateFollows =
    (own q sender sigs : ℕ) (m : List ℕ) (r : Record) → member sigs sender ≡ true → HasOwn own r
    → Follows own (at_least q) sender sigs m r (update own q sigs m r)
