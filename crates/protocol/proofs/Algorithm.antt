-- R13.1 on values: what specs/Algorithm.antt claims. Broadcasting on an empty record does what mbrb_broadcast does, and receiving does what the
-- algorithm does with the bundle, up to the differences of R13.2 to R13.4 and R13.8. By cases on the record, then on the tests of receiving.
-- Assumes nothing.
use mathlib.Core.Path.{◌≡◌, refl, sym, ap, fun_ext, ◌∙◌}
use mathlib.Core.Logic.{inl, inr}
use mathlib.Core.Bool.{Bool, true, false, cond, not, ◌&&◌, and-false, true≢false}
use mathlib.Core.List.{List, [], ◌∷◌, ◌++◌}
use Prim.Native.Nat.{ℕ, ◌+◌, ◌^◌}
use native.Mathlib.Omega.{arith}
use lib.Bits.{bit_or, or_zero_l, or_zero_r}
use lib.Dec.{leb, ltb, eqb}
use borrow.Author.Tests.{ltb-true, leb-true, leb-false, lt-leb, eq-eqb, eqb-true, eqb-false, le-leb, ltb-false, not-false}
use Rattle.octets.specs.Octets.{same}
use Rattle.octets.proofs.Same.{same-says, same_self, same-flip}
use Rattle.signers.specs.Signers.{member, insert, without, union, size}
use Rattle.signers.proofs.Counting.{more-than-half}
use Rattle.signers.proofs.Members.{nobody, member-without}
use Rattle.refusal.specs.Outcome.{unless}
use Rattle.protocol.specs.Update.{Note, Nothing, Noted, Record, Empty, Held, Delivered, note_of, is_empty, is_delivered, holds, noted_signers, notes, notes_other, with_note, Answer, Update, announced, kept, signed, delivered, noted, announced_by, other_without_quorum, update_reasons, joined_note, joined_signers, note_after, update_result, update}
use Rattle.protocol.specs.Algorithm.{State, Effect, broadcast, deliver, Run, save, sign, bundle_effect, on_broadcast, line9, line5, and_line9, on_bundle, keep_one, send_once, state_of, apart_of, effects_of, SameState, BroadcastFollows, valid, more_than_half, at_least, PassesOver, Follows, UnsignedIgnored, UpdateFollows, LeastQuorumIsLine9, SameOrWaits, StricterQuorumWaits}

-- ---- words and messages

-- joining the word of one node inserts it
pub one-joined : (sigs own : ℕ) → union sigs (insert 0 own) ≡ insert sigs own
unfolding insert
one-joined sigs own = go (ltb own 64)
  where
    go : (b : Bool) → bit_or sigs (cond b (bit_or 0 (2 ^ own)) 0) ≡ cond b (bit_or sigs (2 ^ own)) sigs
    go true = ap (bit_or sigs) (or_zero_l (2 ^ own))
    go false = or_zero_r sigs

-- If only one message's signatures stay, it is enough to know what is saved for that message.
one_kept : (saved : List ℕ → ℕ) (m x : List ℕ) (g : ℕ) → saved m ≡ g → cond (same m x) g 0 ≡ cond (same m x) (saved x) 0
one_kept saved m x g e = go (same m x) refl
  where
    go : (b : Bool) → same m x ≡ b → cond (same m x) g 0 ≡ cond (same m x) (saved x) 0
    go true h = rw (h, ← e) (ap saved (same-says m x h))
    go false h = rw h

-- ---- the quorum

pub least-quorum-is-line9 : LeastQuorumIsLine9
least-quorum-is-line9 n t = fun_ext (more-than-half (n + t))

pub stricter-quorum-waits : StricterQuorumWaits
unfolding line9
stricter-quorum-waits own n t q sender m σ intersects = go (leb q (size (σ.saved m))) refl (ltb (n + t) (size (σ.saved m) + size (σ.saved m))) refl
  where
    saved : ℕ
    saved = size (σ.saved m)

    go : (full : Bool) → leb q saved ≡ full → (more : Bool) → more_than_half n t saved ≡ more → SameOrWaits own n t q sender m σ
    go true f true h = inl (rw (f, h))
    go true f false h = absurd (omega (arith, leb-true q saved f, ltb-false (n + t) (saved + saved) h))
    go false f true h = inr (h, leb-false q saved f, rw f)
    go false f false h = inl (rw (f, h))

-- ---- broadcasting

-- the node's own signature is saved, for its message, and nothing else
pub broadcast-follows : BroadcastFollows
unfolding state_of announced_by on_broadcast sign save bundle_effect
broadcast-follows own m = (record { alike = λ x. rw (same-flip x m); signed_alike = refl; delivered_alike = refl }, rw (same_self m))

-- ---- receiving

-- The state is the algorithm's, of which only one message's signatures stay, and the effects are the algorithm's without the repeated bundle.
abbrev Alike : List ℕ → Update → Run → Type 0
Alike m result run = SameState (state_of result.new_record) (keep_one m run.state) × (effects_of result ≡ send_once run.effects)

-- the answer tells of a second message
abbrev is_noted : Answer → Bool
is_noted announced = false
is_noted kept = false
is_noted signed = false
is_noted delivered = false
is_noted noted = true

module _ (own q sender sigs : ℕ) (m : List ℕ) (r : Record) where
  -- where the message is not noted
  joins-result : other_without_quorum own q sigs m r ≡ false
      → update_result own q sigs m r
      ≡ cond (leb q (size (joined_signers own q sigs m r)))
      (record { answer = delivered; new_record = Delivered (joined_signers own q sigs m r) m (note_after own q sigs m r) })
      (record { answer = cond (is_empty r) signed kept; new_record = Held (joined_signers own q sigs m r) m (note_after own q sigs m r) })
  unfolding update_result
  joins-result counts = rw counts

  -- If lines 4 to 8 have saved the record's new signers for the message, and have sent a bundle where the record was empty, then receiving follows:
  -- line 9 delivers exactly where receiving does.
  joins-alike : other_without_quorum own q sigs m r ≡ false → (σ : State) → σ.saved m ≡ joined_signers own q sigs m r → σ.has_signed ≡ true → σ.has_delivered ≡ false
      → Alike m (update_result own q sigs m r) (and_line9 own (at_least q) sender m (record { state = σ; effects = cond (is_empty r) (bundle_effect m σ ∷ []) [] }))
  unfolding update_result and_line9 line9 bundle_effect state_of keep_one effects_of send_once
  joins-alike counts σ e made waits = rw counts (go (leb q (size word)) (is_empty r) (ap (λ (k : ℕ). leb q (size k)) e))
    where
      note : Note
      note = note_after own q sigs m r

      word : ℕ
      word = joined_signers own q sigs m r

      state-alike : (ours theirs : Bool) → ours ≡ theirs
          → SameState (record { saved = λ x. cond (same m x) word 0; has_signed = true; has_delivered = ours })
          (keep_one m (record { saved = σ.saved; has_signed = σ.has_signed; has_delivered = theirs }))
      state-alike ours theirs d = record { alike = λ x. one_kept σ.saved m x word e; signed_alike = sym made; delivered_alike = d }

      go : (full fresh : Bool) → leb q (size (σ.saved m)) ≡ full
          → Alike m (cond full (record { answer = delivered; new_record = Delivered word m note }) (record { answer = cond fresh signed kept; new_record = Held word m note }))
          (and_line9 own (at_least q) sender m (record { state = σ; effects = cond fresh (bundle_effect m σ ∷ []) [] }))
      go true true h = rw h (state-alike true true refl, rw (eq-eqb (σ.saved m) (σ.saved m) refl, same_self m, e))
      go true false h = rw h (state-alike true true refl, rw e)
      go false true h = rw h (state-alike false σ.has_delivered (sym waits), rw e)
      go false false h = rw h (state-alike false σ.has_delivered (sym waits), refl)

  -- the answer is not noted then,
  joins-answer : other_without_quorum own q sigs m r ≡ false → (update_result own q sigs m r).answer ≡ noted → ⊥
  joins-answer counts e = true≢false (sym (ap is_noted e) ∙ other-answer)
    where
      go : (full fresh : Bool) (x y : Record)
          → is_noted (cond {A = Update} full (record { answer = delivered; new_record = x }) (record { answer = cond fresh signed kept; new_record = y })).answer ≡ false
      go true fresh x y = refl
      go false true x y = refl
      go false false x y = refl

      other-answer : is_noted (update_result own q sigs m r).answer ≡ false
      other-answer = ap (λ (u : Update). is_noted u.answer) (joins-result counts) ∙ go (leb q (size (joined_signers own q sigs m r))) (is_empty r) _ _

  -- and what is noted is what the definition says
  joins-note : other_without_quorum own q sigs m r ≡ false → note_of (update_result own q sigs m r).new_record ≡ note_after own q sigs m r
  unfolding update_result
  joins-note counts = rw counts (go (leb q (size (joined_signers own q sigs m r))))
    where
      go : (full : Bool)
          → note_of
          (cond {A = Update} full
          (record { answer = delivered; new_record = Delivered (joined_signers own q sigs m r) m (note_after own q sigs m r) })
          (record { answer = cond (is_empty r) signed kept; new_record = Held (joined_signers own q sigs m r) m (note_after own q sigs m r) })).new_record
          ≡ note_after own q sigs m r
      go true = refl
      go false = refl

  -- with fewer signatures than the quorum, line 9 does nothing
  too_few : (σ : State) → σ.saved m ≡ sigs → ltb (size sigs) q ≡ true → line9 own (at_least q) sender m σ ≡ record { state = σ; effects = [] }
  unfolding line9
  too_few σ e f = rw (e, lt-leb q (size sigs) (ltb-true (size sigs) q f))

  -- with a quorum, it delivers
  enough : (σ : State) → σ.saved m ≡ sigs → ltb (size sigs) q ≡ false → (line9 own (at_least q) sender m σ).state.has_delivered ≡ true
  unfolding line9
  enough σ e f = rw (e, le-leb q (size sigs) (ltb-false (size sigs) q f))

-- ---- which signatures are valid

-- all of them where the bundle has none of p_i,
pub valid-absent : (own : ℕ) (m : List ℕ) (sigs : ℕ) (σ : State) → member sigs own ≡ false → valid own m sigs σ ≡ sigs
unfolding valid
valid-absent own m sigs σ e = rw e

-- or p_i has saved its own
valid-saved : (own : ℕ) (m : List ℕ) (sigs : ℕ) (σ : State) → member (σ.saved m) own ≡ true → valid own m sigs σ ≡ sigs
unfolding valid
valid-saved own m sigs σ e = rw (e, and-false (member sigs own))

-- and else those of the others
valid-others : (own : ℕ) (m : List ℕ) (sigs : ℕ) (σ : State) → member sigs own ≡ true → member (σ.saved m) own ≡ false → valid own m sigs σ ≡ without sigs own
unfolding valid
valid-others own m sigs σ e f = rw (e, f)

-- no other node's signature is passed over
valid-unsigned : (own : ℕ) (m : List ℕ) (sigs sender : ℕ) (σ : State) → member sigs sender ≡ false → member (valid own m sigs σ) sender ≡ false
unfolding valid
valid-unsigned own m sigs sender σ e = go (member sigs own && not (member (σ.saved m) own))
  where
    go : (b : Bool) → member (cond b (without sigs own) sigs) sender ≡ false
    go true = member-without sigs own sender ∙ rw e
    go false = e

-- the algorithm on a bundle whose valid signatures are known
abbrev on_valid : (own : ℕ) (enough : ℕ → Bool) (sender : ℕ) (m : List ℕ) (found : ℕ) (σ : State) → Run
on_valid own enough sender m found σ =
    cond (not σ.has_delivered && member found sender) (and_line9 own enough sender m (line5 own enough sender m (save m found σ))) (record { state = σ; effects = [] })

on-valid : (own : ℕ) (enough : ℕ → Bool) (sender : ℕ) (m : List ℕ) (sigs found : ℕ) (σ : State) → valid own m sigs σ ≡ found
    → on_bundle own enough sender m sigs σ ≡ on_valid own enough sender m found σ
unfolding on_bundle
on-valid own enough sender m sigs found σ e = rw e

-- without its sender's signature a bundle does not pass line 3
pub unsigned-ignored : UnsignedIgnored
unsigned-ignored own enough sender sigs m σ e =
    rw (on-valid own enough sender m sigs (valid own m sigs σ) σ refl, valid-unsigned own m sigs sender σ e, and-false (not σ.has_delivered))
    (record { alike = λ x. refl; signed_alike = refl; delivered_alike = refl }, refl)

-- ---- 23: a signature of p_i that p_i never made

-- what line 9 comes to, by what is saved for the message
line9-comes : (own q sender : ℕ) (m : List ℕ) (σ : State) (before : List Effect) (g : ℕ) → σ.saved m ≡ g → σ.has_signed ≡ true → σ.has_delivered ≡ false
    → ((and_line9 own (at_least q) sender m (record { state = σ; effects = before })).state.saved m ≡ g)
    × ((x : List ℕ) → (and_line9 own (at_least q) sender m (record { state = σ; effects = before })).state.saved x ≡ σ.saved x)
    × ((and_line9 own (at_least q) sender m (record { state = σ; effects = before })).state.has_signed ≡ true)
    × ((and_line9 own (at_least q) sender m (record { state = σ; effects = before })).state.has_delivered ≡ leb q (size g))
    × ((and_line9 own (at_least q) sender m (record { state = σ; effects = before })).effects ≡ before ++ cond (leb q (size g)) (broadcast g m ∷ deliver m ∷ []) [])
unfolding and_line9 line9 bundle_effect
line9-comes own q sender m σ before g e made waits = rw e (go (leb q (size g)))
  where
    delivering : Run
    delivering = record { state = record { saved = σ.saved; has_signed = σ.has_signed; has_delivered = true }; effects = broadcast g m ∷ deliver m ∷ [] }

    waiting : Run
    waiting = record { state = σ; effects = [] }

    go : (full : Bool)
        → ((cond {A = Run} full delivering waiting).state.saved m ≡ g)
        × ((x : List ℕ) → (cond {A = Run} full delivering waiting).state.saved x ≡ σ.saved x)
        × ((cond {A = Run} full delivering waiting).state.has_signed ≡ true)
        × ((cond {A = Run} full delivering waiting).state.has_delivered ≡ full)
        × (before ++ (cond {A = Run} full delivering waiting).effects ≡ before ++ cond full (broadcast g m ∷ deliver m ∷ []) [])
    go true = (e, λ x. refl, made, refl, refl)
    go false = (e, λ x. refl, made, waits, refl)

module _ (own q sender sigs : ℕ) (m : List ℕ) (present : member sigs sender ≡ true) (ours : member sigs own ≡ true) where
  -- lines 4 to 12 with the others' signatures
  goes_on : (r : Record) → is_delivered r ≡ false → holds r m ≡ false → eqb sender own ≡ false
      → on_bundle own (at_least q) sender m sigs (state_of r) ≡ and_line9 own (at_least q) sender m (line5 own (at_least q) sender m (save m (without sigs own) (state_of r)))
  unfolding state_of
  goes_on r waits apart other =
      on-valid own (at_least q) sender m sigs (without sigs own) (state_of r) (valid-others own m sigs (state_of r) ours (rw apart (nobody own)))
      ∙ rw (waits, member-without sigs own sender, present, other)

  -- or nothing, in the node's own slot
  stops : (r : Record) → is_delivered r ≡ false → holds r m ≡ false → eqb sender own ≡ true
      → on_bundle own (at_least q) sender m sigs (state_of r) ≡ record { state = state_of r; effects = [] }
  unfolding state_of
  stops r waits apart same =
      on-valid own (at_least q) sender m sigs (without sigs own) (state_of r) (valid-others own m sigs (state_of r) ours (rw apart (nobody own)))
      ∙ rw (waits, member-without sigs own sender, present, same)

  -- lines 4 to 12 by the state of the record
  lines : (r : Record) → is_delivered r ≡ false → holds r m ≡ false → eqb sender own ≡ false → PassesOver own (at_least q) sender sigs m r
  unfolding line5 sign save state_of bundle_effect
  lines Empty waits apart other =
      let σ = sign own m (save m (without sigs own) (state_of Empty)) in
      let now : σ.saved m ≡ insert (without sigs own) own = rw (same_self m) (one-joined (without sigs own) own) in
      let (saved, others, made, full, effects) = line9-comes own q sender m σ (broadcast (insert (without sigs own) own) m ∷ []) (insert (without sigs own) own) now refl refl in
      rw (goes_on Empty refl refl other, now) (inr (eqb-false sender own other, saved, λ x h. others x ∙ rw h, made, full, effects))
  lines (Held s p note) waits apart other =
      let σ = save m (without sigs own) (state_of (Held s p note)) in
      let now : σ.saved m ≡ without sigs own = rw (same_self m, apart) in
      let (saved, others, made, full, effects) = line9-comes own q sender m σ [] (without sigs own) now refl refl in
      rw (goes_on (Held s p note) refl apart other) (inr (eqb-false sender own other, saved, λ x h. others x ∙ rw h, made, full, effects))
  lines (Delivered s p note) waits apart other = absurd (true≢false waits)

  passes_over : (r : Record) → is_delivered r ≡ false → holds r m ≡ false → PassesOver own (at_least q) sender sigs m r
  passes_over r waits apart = go (eqb sender own) refl
    where
      go : (b : Bool) → eqb sender own ≡ b → PassesOver own (at_least q) sender sigs m r
      go true same =
          rw (stops r waits apart same) (inl (eqb-true sender own same, record { alike = λ x. refl; signed_alike = refl; delivered_alike = refl }, refl))
      go false other = lines r waits apart other

-- ---- what is kept apart

-- line 9 saves nothing
line9-saves : (own q sender : ℕ) (m : List ℕ) (σ : State) (x : List ℕ) → (line9 own (at_least q) sender m σ).state.saved x ≡ σ.saved x
unfolding line9
line9-saves own q sender m σ x = go (leb q (size (σ.saved m))) _ _
  where
    go : (full : Bool) (delivering : List Effect) (waiting : List Effect)
        → (cond {A = Run} full
        (record { state = record { saved = σ.saved; has_signed = σ.has_signed; has_delivered = true }; effects = delivering })
        (record { state = σ; effects = waiting })).state.saved x ≡ σ.saved x
    go true d w = refl
    go false d w = refl

-- Where nothing is noted or this message is, the bundle's signatures join what is noted of it, and of no other message anything is noted.
note-saved : (sigs : ℕ) (m : List ℕ) (note : Note) (x : List ℕ) → notes_other note m ≡ false
    → cond (same m x) (union (noted_signers note) sigs) 0
    ≡ cond (same x m) (union (cond (notes note x) (noted_signers note) 0) sigs) (cond (notes note x) (noted_signers note) 0)
note-saved sigs m Nothing x known = ap (λ (b : Bool). cond b (union 0 sigs) 0) (same-flip m x)
note-saved sigs m (Noted old first) x known =
    let this : first ≡ m = same-says first m (not-false (same first m) known) in
    rw (this, ← same-flip m x) (go (same m x))
  where
    go : (b : Bool) → cond b (union old sigs) 0 ≡ cond b (union (cond b old 0) sigs) (cond b old 0)
    go true = refl
    go false = refl

-- a second message is noted, and that is all
second-noted : (own q sigs : ℕ) (m : List ℕ) (r : Record) → other_without_quorum own q sigs m r ≡ true
    → update_result own q sigs m r ≡ record { answer = noted; new_record = with_note (joined_note own q sigs m r) r }
unfolding update_result
second-noted own q sigs m r e = rw e

-- Empty: 23, or lines 4 to 12. Held: this message, and lines 4 and 9 to 12; or another, and 23, 24, line 4 on what is kept apart, or a full quorum at once.
-- Delivered: 22.
pub update-follows : UpdateFollows
unfolding update update_reasons unless joined_signers on_bundle line5 and_line9 save sign state_of apart_of effects_of keep_one bundle_effect
update-follows own q sender sigs m Empty present has = go (member sigs own) refl
  where
    go : (ours : Bool) → member sigs own ≡ ours → Follows own (at_least q) sender sigs m Empty (update own q sigs m Empty)
    go true e = rw e (inr (inl (refl, refl, e, nobody own, passes_over own q sender sigs m present e Empty refl refl)))
    go false e =
        let saved = sign own m (save m sigs (state_of Empty)) in
        let (state, effects) = joins-alike own q sender sigs m Empty refl saved (rw (same_self m) (one-joined sigs own)) refl refl in
        let apart = joins-note own q sender sigs m Empty refl in
        rw (e, valid-absent own m sigs (state_of Empty) e, present)
        (refl, inl (joins-answer own q sender sigs m Empty refl, refl, state, effects, λ x. ap (λ (k : Note). cond (notes k x) (noted_signers k) 0) apart))
update-follows own q sender sigs m (Held s p note) present has =
    go (same p m) refl (member sigs own) refl (ltb (size sigs) q) refl (notes_other note m) refl
  where
    saved : State
    saved = save m sigs (state_of (Held s p note))

    -- the signatures that were saved for another message do not stay
    dropped : same p m ≡ false → (x : List ℕ) (b : Bool) → same p x ≡ b → cond (same p x) (saved.saved x) 0 ≡ cond (same p x) s 0
    dropped h x true k = let apart : same x m ≡ false = ap (λ y. same y m) (sym (same-says p x k)) ∙ h in rw (k, apart)
    dropped h x false k = rw k

    -- line 4 and nothing else
    saves : SameState saved saved
    saves = record { alike = λ x. refl; signed_alike = refl; delivered_alike = refl }

    go : (held : Bool) → same p m ≡ held → (ours : Bool) → member sigs own ≡ ours → (few : Bool) → ltb (size sigs) q ≡ few
        → (third : Bool) → notes_other note m ≡ third
        → Follows own (at_least q) sender sigs m (Held s p note) (update own q sigs m (Held s p note))
    go true h ours e few f third t =
        let (state, effects) = joins-alike own q sender sigs m (Held s p note) (rw h) saved (rw (same_self m, h)) refl refl in
        let apart : note_of (update_result own q sigs m (Held s p note)).new_record ≡ note = joins-note own q sender sigs m (Held s p note) (rw h) ∙ rw h in
        rw (h, and-false (member sigs own), valid-saved own m sigs (state_of (Held s p note)) (rw h has), present)
        (refl, inl (joins-answer own q sender sigs m (Held s p note) (rw h), rw h, state, effects, λ x. rw h (ap (λ (k : Note). cond (notes k x) (noted_signers k) 0) apart)))
    go false h true e few f third t =
        rw (h, e) (inr (inl (refl, refl, e, rw h (nobody own), passes_over own q sender sigs m present e (Held s p note) refl h)))
    go false h false e true f true t =
        let quiet = too_few own q sender sigs m (Held s p note) saved (rw (same_self m, h)) f in
        rw (h, e, f, t, valid-absent own m sigs (state_of (Held s p note)) e, present, quiet) (inr (inr (refl, refl, rw h, t, saves, refl)))
    go false h false e true f false t =
        let quiet = too_few own q sender sigs m (Held s p note) saved (rw (same_self m, h)) f in
        rw (h, e, f, t, second-noted own q sigs m (Held s p note) (rw (h, f)), valid-absent own m sigs (state_of (Held s p note)) e, present, quiet) (
          refl,
          inr (
            refl,
            rw h,
            t,
            saves,
            refl,
            record { alike = λ x. refl; signed_alike = refl; delivered_alike = refl },
            refl,
            record { alike = λ x. note-saved sigs m note x t; signed_alike = refl; delivered_alike = refl },
          ),
        )
    go false h false e false f third t =
        let full = enough own q sender sigs m (Held s p note) saved (rw (same_self m, h)) f in
        let (state, effects) = joins-alike own q sender sigs m (Held s p note) (rw (h, f)) saved (rw (same_self m, h)) refl refl in
        let apart : note_of (update_result own q sigs m (Held s p note)).new_record ≡ Noted s p = joins-note own q sender sigs m (Held s p note) (rw (h, f)) ∙ rw h in
        rw (h, e, f, valid-absent own m sigs (state_of (Held s p note)) e, present) (
          refl,
          inl (
            joins-answer own q sender sigs m (Held s p note) (rw (h, f)),
            rw h (ap not full),
            state,
            effects,
            λ x. rw h
                (ap (λ (k : Note). cond (notes k x) (noted_signers k) 0) apart
                ∙ sym (dropped h x (same p x) refl)
                ∙ ap (λ (k : ℕ). cond (same p x) k 0) (sym (line9-saves own q sender m saved x))),
          ),
        )
update-follows own q sender sigs m (Delivered s p note) present has =
    inl (refl, refl, record { alike = λ x. refl; signed_alike = refl; delivered_alike = refl }, refl)
