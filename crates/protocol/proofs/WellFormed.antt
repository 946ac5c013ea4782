-- Well-formed records, on values, and that every record that broadcasting and receiving leave is one. The crate `record` proves from this that its
-- bytes are well-formed. From the definitions of specs/Update.antt and the laws of signers.
-- Assumes nothing.
use mathlib.Core.Path.{◌≡◌, refl, sym, ap, ◌∙◌, subst}
use mathlib.Core.Bool.{Bool, true, false, cond, ◌&&◌, ◌||◌, not, true≢false}
use mathlib.Core.List.{List}
use Prim.Native.Nat.{ℕ, ◌≤◌, ◌<◌}
use native.Mathlib.Omega.{arith}
use lib.Dec.{eqb, ltb, leb}
use lib.ListN.{length}
use lib.Pow.{pow_pos}
use borrow.Author.Tests.{leb-true, leb-false, lt-ltb}
use Rattle.octets.specs.Octets.{same}
use Rattle.octets.proofs.Same.{same-says, same-flip}
use Rattle.signers.specs.Signers.{member, within, insert, union, size}
use Rattle.signers.proofs.Members.{insert-own, member-insert, union_left, union_right, within-union, within-insert, lt-within}
use Rattle.refusal.specs.Outcome.{done}
use Rattle.refusal.proofs.Reasons.{Clear, done-clear}
use Rattle.protocol.specs.Update.{Note, Nothing, Noted, Record, Empty, Held, Delivered, signers_of, payload_of, note_of, is_empty, noted_signers, with_note, Update, announced_by, other_without_quorum, update_reasons, joined_note, joined_signers, note_after, update_result, update}

-- what a bundle in this slot has: only known signers, the sender's signature, a payload of 16 bytes
pub record Bundled (n sender signers : ℕ) (payload : List ℕ) : Type 0 where
  pub known : within signers n ≡ true
  pub authentic : member signers sender ≡ true
  pub whole : length payload ≡ 16

-- what is noted beside the payload `first`: nothing, or what a bundle with another payload has
abbrev pub NoteWellFormed : (n sender : ℕ) (first : List ℕ) → Note → Type 0
NoteWellFormed n sender first Nothing = Unit
NoteWellFormed n sender first (Noted signers payload) = Bundled n sender signers payload × (same first payload ≡ false)

-- an empty record has nothing; a held one has the node's own signature, and a delivered one a quorum
abbrev pub WellFormed : (n sender q own : ℕ) → Record → Type 0
WellFormed n sender q own Empty = Unit
WellFormed n sender q own (Held signers payload note) = Bundled n sender signers payload × (member signers own ≡ true) × NoteWellFormed n sender payload note
WellFormed n sender q own (Delivered signers payload note) = Bundled n sender signers payload × (q ≤ size signers) × NoteWellFormed n sender payload note

-- a record that is not empty has a bundle's signers and payload,
pub well-formed-bundled : (n sender q own : ℕ) (r : Record) → is_empty r ≡ false → WellFormed n sender q own r → Bundled n sender (signers_of r) (payload_of r)
well-formed-bundled n sender q own Empty e h = absurd (true≢false e)
well-formed-bundled n sender q own (Held signers payload note) e h = h.0
well-formed-bundled n sender q own (Delivered signers payload note) e h = h.0

-- and a note that is well-formed beside it
pub well-formed-note : (n sender q own : ℕ) (r : Record) → WellFormed n sender q own r → NoteWellFormed n sender (payload_of r) (note_of r)
well-formed-note n sender q own Empty h = tt
well-formed-note n sender q own (Held signers payload note) h = h.2
well-formed-note n sender q own (Delivered signers payload note) h = h.2

-- an announcement has the node's own signature alone
pub announced-well-formed : (n q own : ℕ) (payload : List ℕ) → own < n → n ≤ 64 → length payload ≡ 16 → WellFormed n own q own (announced_by own payload)
unfolding announced_by
announced-well-formed n q own payload l most whole =
    let signed = insert-own 0 own (omega arith) in
    (record { known = within-insert 0 own n (lt-within 0 n (pow_pos n)) l; authentic = signed; whole = whole }, signed, tt)

-- ---- receiving

-- the record with these signers, this payload and this note: delivered where the signers are a quorum
abbrev settled : ℕ → ℕ → List ℕ → Note → Record
settled q signers payload note = cond (leb q (size signers)) (Delivered signers payload note) (Held signers payload note)

-- where an update is done, no reason to refuse applied, and its result is that of the definition
pub update-done : (own q signers : ℕ) (payload : List ℕ) (r : Record) (result : Update) → update own q signers payload r ≡ done result
    → Clear (update_reasons own q signers payload r) × (update_result own q signers payload r ≡ result)
unfolding update
update-done own q signers payload r result e = done-clear (update_reasons own q signers payload r) (update_result own q signers payload r) result e

-- the new record has another note, or is delivered or held by the number of its signers
pub update-settled : (own q signers : ℕ) (payload : List ℕ) (r : Record)
    → (update_result own q signers payload r).new_record
    ≡ cond (other_without_quorum own q signers payload r) (with_note (joined_note own q signers payload r) r)
    (settled q (joined_signers own q signers payload r) payload (note_after own q signers payload r))
unfolding update_result
update-settled own q signers payload r = go (other_without_quorum own q signers payload r) (leb q (size (joined_signers own q signers payload r))) _ _ _
  where
    go : (b c : Bool) (w x y : Update) → (cond b w (cond c x y)).new_record ≡ cond b w.new_record (cond c x.new_record y.new_record)
    go true c w x y = refl
    go false true w x y = refl
    go false false w x y = refl

-- a record below the quorum needs the node's own signature
settled-well-formed : (n sender q own signers : ℕ) (payload : List ℕ) (note : Note) → Bundled n sender signers payload
    → (size signers < q → member signers own ≡ true) → NoteWellFormed n sender payload note
    → WellFormed n sender q own (settled q signers payload note)
settled-well-formed n sender q own signers payload note bundled below fine = go (leb q (size signers)) refl
  where
    go : (b : Bool) → leb q (size signers) ≡ b → WellFormed n sender q own (cond b (Delivered signers payload note) (Held signers payload note))
    go true e = (bundled, leb-true q (size signers) e, fine)
    go false e = (bundled, below (leb-false q (size signers) e), fine)

module _ (n sender q own signers : ℕ) (payload : List ℕ) (l : own < n) (most : n ≤ 64) (bundled : Bundled n sender signers payload) where
  -- what a bundle has joins what another of the same payload has
  bundled-union : (first : ℕ) → within first n ≡ true → Bundled n sender (union first signers) payload
  bundled-union first known =
      record {
        known = within-union first signers n known bundled.known;
        authentic = union_right first signers sender bundled.authentic;
        whole = bundled.whole;
      }

  -- a note stays well-formed with the bundle's signers
  noted-well-formed : (held : List ℕ) (note : Note) → NoteWellFormed n sender held note → same held payload ≡ false
      → NoteWellFormed n sender held (Noted (union (noted_signers note) signers) payload)
  noted-well-formed held Nothing fine other = (bundled-union 0 (lt-within 0 n (pow_pos n)), other)
  noted-well-formed held (Noted first noted) fine other = (bundled-union first fine.0.known, other)

  joined-well-formed : (r : Record) → WellFormed n sender q own r → Clear (update_reasons own q signers payload r)
      → WellFormed n sender q own
      (cond (other_without_quorum own q signers payload r) (with_note (joined_note own q signers payload r) r)
      (settled q (joined_signers own q signers payload r) payload (note_after own q signers payload r)))
  unfolding update_reasons joined_signers
  joined-well-formed Empty h clear =
      let fits : own < 64 = omega arith in
      settled-well-formed n sender q own (insert signers own) payload Nothing
      (record {
        known = within-insert signers own n bundled.known l;
        authentic = member-insert signers own sender fits ∙ ap (λ (b : Bool). b || eqb sender own) bundled.authentic;
        whole = bundled.whole;
      })
      (λ small. insert-own signers own fits) tt
  joined-well-formed (Held first held note) h clear = go (same held payload) refl (ltb (size signers) q) refl
    where
      go : (b : Bool) → same held payload ≡ b → (few : Bool) → ltb (size signers) q ≡ few
          → WellFormed n sender q own
          (cond (not b && few) (Held first held (Noted (union (noted_signers note) signers) payload))
          (settled q (cond b (union first signers) signers) payload (cond (not b) (Noted first held) note)))
      go true e few k =
          settled-well-formed n sender q own (union first signers) payload note (bundled-union first h.0.known)
          (λ small. union_left first signers own h.1) (subst (λ (x : List ℕ). NoteWellFormed n sender x note) (same-says held payload e) h.2)
      go false e true k = (h.0, h.1, noted-well-formed held note h.2 e)
      go false e false k =
          settled-well-formed n sender q own signers payload (Noted first held) bundled
          (λ small. absurd (true≢false (sym (lt-ltb (size signers) q small) ∙ k))) (h.0, same-flip payload held ∙ e)
  joined-well-formed (Delivered first held note) h clear = absurd (true≢false clear.0)

  -- receiving keeps a record well-formed
  pub update-well-formed : (r : Record) (result : Update) → WellFormed n sender q own r → update own q signers payload r ≡ done result → WellFormed n sender q own result.new_record
  update-well-formed r result h e =
      let (clear, same) = update-done own q signers payload r result e in
      subst (WellFormed n sender q own) (sym (update-settled own q signers payload r) ∙ ap (λ (x : Update). x.new_record) same) (joined-well-formed r h clear)
