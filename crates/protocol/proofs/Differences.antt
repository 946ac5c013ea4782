-- The differences from Algorithm 1: what specs/Differences.antt claims. Of one update by its cases; of a trace from what its nodes have signed so far.
-- Assumes nothing.
use mathlib.Core.Path.{◌≡◌, refl, sym, ◌∙◌, subst}
use mathlib.Core.Logic.{◌⊎◌, inl, inr}
use mathlib.Core.Bool.{Bool, true, false, cond, ◌&&◌, true≢false, and-true, and-eq-true_iff}
use mathlib.Core.List.{List, [], ◌∷◌}
use Prim.Native.Nat.{ℕ, ◌≤◌, ◌<◌}
use lib.Dec.{leb, ltb, eqb}
use borrow.Author.Tests.{le-leb, ltb-true, ltb-false, eqb-true, not-true}
use Rattle.octets.specs.Octets.{same}
use Rattle.octets.proofs.Booleans.{or_cases}
use Rattle.octets.proofs.Same.{same-says, same_self}
use Rattle.signers.specs.Signers.{member, insert, union, size}
use Rattle.signers.proofs.Members.{insert-own}
use Rattle.refusal.specs.Outcome.{Outcome, after}
use Rattle.protocol.specs.Update.{Note, Nothing, Noted, Record, Empty, Held, Delivered, noted_signers, Update, signed, delivered, noted, update_reasons, joined_signers, update_result}
use Rattle.protocol.specs.Trace as trace
use Rattle.protocol.specs.Trace.{Trace, start, ◌then◌calls◌}
use Rattle.protocol.specs.OneSlot.{Act, outcome, record_after, signs, delivers_this, current_record, ever}
use Rattle.protocol.specs.Differences.{brings_quorum, delivers_at_once, OtherNeedsQuorum, OneBundleForBoth, OnePayloadHeld, OtherAtOnce}
use Rattle.protocol.specs.Algorithm.{broadcast, deliver, at_least, save, sign, bundle_effect, line9, line5, and_line9, on_bundle, state_of, effects_of}
use Rattle.protocol.proofs.Algorithm.{one-joined, valid-absent}
use Rattle.protocol.proofs.WellFormed.{update-done}
use Rattle.protocol.proofs.TraceInduction.{result_signs, result_delivers}
use Rattle.protocol.proofs.TraceLaws.{ever-own, ever-grows}
use Rattle.protocol.proofs.UpdateCases.{UpdateCase, refusing, broadcasting, signing, signing-and-delivering, joining, completing, replacing, noting, update-case}
use Rattle.protocol.proofs.SignedSoFar.{signed-so-far, signs-one-payload}

-- ---- one update

pub other-needs-quorum : OtherNeedsQuorum
unfolding update_reasons joined_signers update_result
other-needs-quorum own q signers payload Empty result e other = absurd (true≢false (sym other))
other-needs-quorum own q signers payload (Held old held note) result e other = go (ltb (size signers) q) refl
  where
    is : update_result own q signers payload (Held old held note) ≡ result
    is = (update-done own q signers payload (Held old held note) result e).1

    apart : same held payload ≡ false
    apart = not-true (same held payload) other

    go : (few : Bool) → ltb (size signers) q ≡ few
        → ((q ≤ size signers) × (result ≡ record { answer = delivered; new_record = Delivered signers payload (Noted old held) }))
        ⊎ ((size signers < q) × (result ≡ record { answer = noted; new_record = Held old held (Noted (union (noted_signers note) signers) payload) }))
    go true f = inr (ltb-true (size signers) q f, sym is ∙ rw (apart, f))
    go false f =
        let enough : q ≤ size signers = ltb-false (size signers) q f in
        inl (enough, sym is ∙ rw (apart, f, le-leb q (size signers) enough))
other-needs-quorum own q signers payload (Delivered old held note) result e other =
    absurd (true≢false (update-done own q signers payload (Delivered old held note) result e).0.0)

pub one-bundle-for-both : OneBundleForBoth
unfolding update_reasons update_result joined_signers on_bundle line5 and_line9 line9 bundle_effect save sign state_of effects_of
one-bundle-for-both own q sender signers payload result present e d =
    go (leb q (size (insert signers own))) refl (update-done own q signers payload Empty result e).1
  where
    -- the bundle has none of the node's signatures, else 23
    absent : member signers own ≡ false
    absent = sym (and-true (member signers own)) ∙ (update-done own q signers payload Empty result e).0.1.0

    saved : (sign own payload (save payload signers (state_of Empty))).saved payload ≡ insert signers own
    saved = rw (same_self payload) (one-joined signers own)

    go : (full : Bool) → leb q (size (insert signers own)) ≡ full
        → cond full (record { answer = delivered; new_record = Delivered (insert signers own) payload Nothing }) (record { answer = signed; new_record = Held (insert signers own) payload Nothing }) ≡ result
        → (result ≡ record { answer = delivered; new_record = Delivered (insert signers own) payload Nothing })
        × (effects_of result ≡ broadcast (insert signers own) payload ∷ deliver payload ∷ [])
        × ((on_bundle own (at_least q) sender payload signers (state_of Empty)).effects
        ≡ broadcast (insert signers own) payload ∷ broadcast (insert signers own) payload ∷ deliver payload ∷ [])
    go true f is = (sym is, rw (← is), rw (valid-absent own payload signers (state_of Empty) absent, present, saved, f))
    go false f is = absurd (true≢false (sym d ∙ rw (← is)))

-- ---- a trace

module _ (q u : ℕ) (room : u < 64) where
  -- what a held record holds was signed
  held-signed : (list : Trace Act) (signers : ℕ) (payload : List ℕ) (note : Note) → current_record q list u ≡ Held signers payload note → ever q (signs q payload) list u ≡ true
  held-signed list signers payload note is = (rw is at (signed-so-far q list u room)).signed

  empty-unsigned : (list : Trace Act) → current_record q list u ≡ Empty → (payload : List ℕ) → ever q (signs q payload) list u ≡ false
  empty-unsigned list is payload = go (ever q (signs q payload) list u) refl
    where
      go : (b : Bool) → ever q (signs q payload) list u ≡ b → b ≡ false
      go true e = absurd ((rw is at (signed-so-far q list u room)) payload e)
      go false e = refl

  delivered-some-signed : (list : Trace Act) (signers : ℕ) (payload : List ℕ) (note : Note) → current_record q list u ≡ Delivered signers payload note
      → (signed : List ℕ) × (ever q (signs q signed) list u ≡ true)
  delivered-some-signed list signers payload note is = let (first, only) = rw is at (signed-so-far q list u room) in (first, only.signed)

  module _ (payload : List ℕ) where
    -- the act that delivers signs the payload, finds it held and so signed, or brings a quorum
    delivers-now : (earlier : Trace Act) (act : Act) (r : Record) (o : Outcome Update) → current_record q earlier u ≡ r
        → UpdateCase q u u act r o → after o (result_delivers payload) false ≡ true
        → (after o (result_signs payload u) false ≡ true) ⊎ (ever q (signs q payload) earlier u ≡ true) ⊎ (brings_quorum q act ≡ true)
    unfolding brings_quorum
    delivers-now earlier act r o is (refusing why) d = absurd (true≢false (sym d))
    delivers-now earlier act r o is (broadcasting own) d = absurd (true≢false (sym d))
    delivers-now earlier act r o is (signing absent few) d = absurd (true≢false (sym d))
    delivers-now earlier act r o is (signing-and-delivering {signers = signers} absent enough) d =
        inl (rw (d, insert-own signers u room))
    delivers-now earlier act r o is (joining few) d = absurd (true≢false (sym d))
    delivers-now earlier act r o is (completing {payload = held} enough) d =
        inr (inl (rw (← same-says held payload d) (held-signed earlier _ held _ is)))
    delivers-now earlier act r o is (replacing {signers = signers} other absent enough) d = inr (inr (le-leb q (size signers) enough))
    delivers-now earlier act r o is (noting other few known) d = absurd (true≢false (sym d))

    abbrev SignedOrAtOnce : (list : Trace Act) → Type 0
    SignedOrAtOnce list = (ever q (signs q payload) list u ≡ true) ⊎ (ever q (delivers_at_once q payload) list u ≡ true)

    still-so : (earlier : Trace Act) (v : ℕ) (act : Act) → SignedOrAtOnce earlier → SignedOrAtOnce (earlier then v calls act)
    still-so earlier v act (inl e) = inl (ever-grows (λ node. Empty) (record_after q) (signs q payload) earlier u v act e)
    still-so earlier v act (inr e) = inr (ever-grows (λ node. Empty) (record_after q) (delivers_at_once q payload) earlier u v act e)

    now-so : (earlier : Trace Act) (act : Act) → delivers_this q payload u act (current_record q earlier u) ≡ true
        → SignedOrAtOnce (earlier then u calls act)
    unfolding signs delivers_this delivers_at_once
    now-so earlier act d =
        go (delivers-now earlier act (current_record q earlier u) (outcome q u act (current_record q earlier u)) refl
        (update-case q u act (current_record q earlier u)) d)
      where
        go : (after (outcome q u act (current_record q earlier u)) (result_signs payload u) false ≡ true) ⊎ (ever q (signs q payload) earlier u ≡ true) ⊎ (brings_quorum q act ≡ true)
            → SignedOrAtOnce (earlier then u calls act)
        go (inl now) = inl (ever-own (λ node. Empty) (record_after q) (signs q payload) earlier u act ∙ rw now)
        go (inr (inl before)) = still-so earlier u act (inl before)
        go (inr (inr full)) = inr (ever-own (λ node. Empty) (record_after q) (delivers_at_once q payload) earlier u act ∙ rw (d, full))

    delivered-signed : (list : Trace Act) → ever q (delivers_this q payload) list u ≡ true → SignedOrAtOnce list
    unfolding trace.ever
    delivered-signed start d = absurd (true≢false (sym d))
    delivered-signed (earlier then v calls act) d =
        go (delivered-signed earlier) (or_cases _ (ever q (delivers_this q payload) earlier u) d)
      where
        go : (ever q (delivers_this q payload) earlier u ≡ true → SignedOrAtOnce earlier)
            → ((eqb u v && delivers_this q payload u act (current_record q earlier u)) ≡ true) ⊎ (ever q (delivers_this q payload) earlier u ≡ true)
            → SignedOrAtOnce (earlier then v calls act)
        go below (inl e) =
            let (here, now) = (and-eq-true_iff (eqb u v) _).0 e in
            subst (λ (w : ℕ). SignedOrAtOnce (earlier then w calls act)) (eqb-true u v here) (now-so earlier act now)
        go below (inr e) = still-so earlier v act (below e)

pub one-payload-held : OnePayloadHeld
one-payload-held q list u room =
    record {
      signs_one = signs-one-payload q list u room;
      empty = empty-unsigned q u room list;
      held = held-signed q u room list;
      delivered = delivered-some-signed q u room list;
    }

pub other-at-once : OtherAtOnce
other-at-once q list u payload room d unsigned = go (delivered-signed q u room payload list d)
  where
    go : (ever q (signs q payload) list u ≡ true) ⊎ (ever q (delivers_at_once q payload) list u ≡ true) → ever q (delivers_at_once q payload) list u ≡ true
    go (inl e) = absurd (true≢false (sym e ∙ unsigned))
    go (inr e) = e
