-- The cases of an act at a node: refused, or one of seven updates of its record. The tests of broadcasting and receiving are gone through here, once, so
-- that other proofs go by these cases. From the definitions of specs/Update.antt and specs/OneSlot.antt. Assumes nothing.
use mathlib.Core.Path.{◌≡◌, refl, sym, subst}
use mathlib.Core.Bool.{Bool, true, false, cond, not, ◌&&◌, false≢true}
use mathlib.Core.List.{List}
use Prim.Native.Nat.{ℕ, ◌≤◌, ◌<◌}
use native.Mathlib.Omega.{arith}
use lib.Dec.{ltb, leb}
use borrow.Author.Tests.{ltb-true, ltb-false, leb-true, leb-false}
use Rattle.octets.specs.Octets.{same}
use Rattle.octets.proofs.Same.{same-says, same_not}
use Rattle.signers.specs.Signers.{member, insert, union, size}
use Rattle.refusal.specs.Outcome.{Outcome, refused, done, unless, after}
use Rattle.protocol.specs.Update.{Note, Nothing, Noted, Record, Empty, Held, Delivered, payload_of, is_empty, is_delivered, holds, noted_signers, notes_other, Answer, Update, sends, delivers, announced, kept, signed, delivered, noted, announced_by, other_without_quorum, update_reasons, joined_signers, update_result, update}
use Rattle.protocol.specs.OneSlot.{Act, Broadcast, Receive, outcome}

-- Why a node refuses: it broadcasts, and its record is in use; the slot is delivered already; the bundle has the node's signature for a payload that its
-- record does not hold; or the record holds another payload and notes a third, and the bundle has no quorum.
pub data RefusalCase (q own : ℕ) : Act → Record → Type 0 where
  record-in-use : {payload : List ℕ} {r : Record} → RefusalCase q own (Broadcast payload) r
  already-delivered : {signers : ℕ} {payload : List ℕ} {old : ℕ} {held : List ℕ} {note : Note} → RefusalCase q own (Receive signers payload) (Delivered old held note)
  own-signature-unknown : {signers : ℕ} {payload : List ℕ} {r : Record} → member signers own ≡ true → holds r payload ≡ false
      → RefusalCase q own (Receive signers payload) r
  third-payload : {signers : ℕ} {payload : List ℕ} {old : ℕ} {held : List ℕ} {note : Note} → (held ≡ payload → ⊥) → size signers < q → notes_other note payload ≡ true
      → RefusalCase q own (Receive signers payload) (Held old held note)

-- What an act at the node `caller` comes to at the node `own`. Where they are not the same node, nothing happens, as if the act were refused.
pub data UpdateCase (q own caller : ℕ) : Act → Record → Outcome Update → Type 0 where
  refusing : {act : Act} {r : Record} {number : ℕ} → (own ≡ caller → RefusalCase q own act r) → UpdateCase q own caller act r (refused number)
  broadcasting : {payload : List ℕ} → own ≡ caller
      → UpdateCase q own caller (Broadcast payload) Empty (done (record { answer = announced; new_record = Held (insert 0 own) payload Nothing }))
  signing : {signers : ℕ} {payload : List ℕ} → member signers own ≡ false → size (insert signers own) < q
      → UpdateCase q own caller (Receive signers payload) Empty (done (record { answer = signed; new_record = Held (insert signers own) payload Nothing }))
  signing-and-delivering : {signers : ℕ} {payload : List ℕ} → member signers own ≡ false → q ≤ size (insert signers own)
      → UpdateCase q own caller (Receive signers payload) Empty (done (record { answer = delivered; new_record = Delivered (insert signers own) payload Nothing }))
  joining : {signers : ℕ} {payload : List ℕ} {old : ℕ} {note : Note} → size (union old signers) < q
      → UpdateCase q own caller (Receive signers payload) (Held old payload note) (done (record { answer = kept; new_record = Held (union old signers) payload note }))
  completing : {signers : ℕ} {payload : List ℕ} {old : ℕ} {note : Note} → q ≤ size (union old signers)
      → UpdateCase q own caller (Receive signers payload) (Held old payload note) (done (record { answer = delivered; new_record = Delivered (union old signers) payload note }))
  replacing : {signers : ℕ} {payload : List ℕ} {old : ℕ} {held : List ℕ} {note : Note} → (held ≡ payload → ⊥) → member signers own ≡ false → q ≤ size signers
      → UpdateCase q own caller (Receive signers payload) (Held old held note) (done (record { answer = delivered; new_record = Delivered signers payload (Noted old held) }))
  noting : {signers : ℕ} {payload : List ℕ} {old : ℕ} {held : List ℕ} {note : Note} → (held ≡ payload → ⊥) → size signers < q → notes_other note payload ≡ false
      → UpdateCase q own caller (Receive signers payload) (Held old held note)
      (done (record { answer = noted; new_record = Held old held (Noted (union (noted_signers note) signers) payload) }))

-- every act is one of these cases at its own node
pub update-case : (q own : ℕ) (act : Act) (r : Record) → UpdateCase q own own act r (outcome q own act r)
unfolding outcome update update_reasons update_result joined_signers unless announced_by
update-case q own (Broadcast payload) Empty = broadcasting refl
update-case q own (Broadcast payload) (Held old held note) = refusing (λ e. record-in-use)
update-case q own (Broadcast payload) (Delivered old held note) = refusing (λ e. record-in-use)
update-case q own (Receive signers payload) (Delivered old held note) = refusing (λ e. already-delivered)
update-case q own (Receive signers payload) Empty = go (member signers own) refl (leb q (size (insert signers own))) refl
  where
    go : (m : Bool) → member signers own ≡ m → (l : Bool) → leb q (size (insert signers own)) ≡ l
        → UpdateCase q own own (Receive signers payload) Empty
        (cond (m && true) (refused 23) (done
        (cond l
        (record { answer = delivered; new_record = Delivered (insert signers own) payload Nothing })
        (record { answer = signed; new_record = Held (insert signers own) payload Nothing }))))
    go true m l k = refusing (λ e. own-signature-unknown m refl)
    go false m true l = signing-and-delivering m (leb-true q (size (insert signers own)) l)
    go false m false l = signing m (leb-false q (size (insert signers own)) l)
update-case q own (Receive signers payload) (Held old held note) =
    go (same held payload) refl (member signers own) refl (ltb (size signers) q) refl (notes_other note payload) refl
  where
    -- the record holds this payload
    holding : held ≡ payload → (l : Bool) → leb q (size (union old signers)) ≡ l
        → UpdateCase q own own (Receive signers payload) (Held old held note)
        (done
        (cond l
        (record { answer = delivered; new_record = Delivered (union old signers) payload note })
        (record { answer = kept; new_record = Held (union old signers) payload note })))
    holding h true l =
        subst
        (λ (x : List ℕ). UpdateCase q own own (Receive signers payload) (Held old x note)
        (done (record { answer = delivered; new_record = Delivered (union old signers) payload note })))
        (sym h) (completing (leb-true q (size (union old signers)) l))
    holding h false l =
        subst
        (λ (x : List ℕ). UpdateCase q own own (Receive signers payload) (Held old x note)
        (done (record { answer = kept; new_record = Held (union old signers) payload note })))
        (sym h) (joining (leb-false q (size (union old signers)) l))

    -- it holds another, and the bundle has a quorum
    other : (held ≡ payload → ⊥) → member signers own ≡ false → q ≤ size signers → (l : Bool) → leb q (size signers) ≡ l
        → UpdateCase q own own (Receive signers payload) (Held old held note)
        (done
        (cond l
        (record { answer = delivered; new_record = Delivered signers payload (Noted old held) })
        (record { answer = kept; new_record = Held signers payload (Noted old held) })))
    other h m enough true l = replacing h m enough
    other h m enough false l = absurd (omega (arith, leb-false q (size signers) l))

    go : (h : Bool) → same held payload ≡ h → (m : Bool) → member signers own ≡ m → (t : Bool) → ltb (size signers) q ≡ t
        → (x : Bool) → notes_other note payload ≡ x
        → UpdateCase q own own (Receive signers payload) (Held old held note)
        (cond (m && not h) (refused 23)
        (cond ((not h && t) && x) (refused 24)
        (done
        (cond (not h && t)
        (record { answer = noted; new_record = Held old held (Noted (union (noted_signers note) signers) payload) })
        (cond (leb q (size (cond h (union old signers) signers)))
        (record { answer = delivered; new_record = Delivered (cond h (union old signers) signers) payload (cond (not h) (Noted old held) note) })
        (record { answer = kept; new_record = Held (cond h (union old signers) signers) payload (cond (not h) (Noted old held) note) }))))))
    go true h true m t k x n = holding (same-says held payload h) (leb q (size (union old signers))) refl
    go true h false m t k x n = holding (same-says held payload h) (leb q (size (union old signers))) refl
    go false h true m t k x n = refusing (λ e. own-signature-unknown m h)
    go false h false m true t true x = refusing (λ e. third-payload (same_not held payload h) (ltb-true (size signers) q t) x)
    go false h false m true t false x = noting (same_not held payload h) (ltb-true (size signers) q t) x
    go false h false m false t x n = other (same_not held payload h) m (ltb-false (size signers) q t) (leb q (size signers)) refl

-- ---- what an update leaves

-- an answer that delivers sends
pub delivers-sends : (answer : Answer) → delivers answer ≡ true → sends answer ≡ true
delivers-sends announced e = refl
delivers-sends kept e = absurd (false≢true e)
delivers-sends signed e = refl
delivers-sends delivered e = refl
delivers-sends noted e = absurd (false≢true e)

-- what holds of the four answers to a bundle holds of an update's
pub result-answer : (P : Answer → Type 0) → P kept → P signed → P delivered → P noted
    → (own q signers : ℕ) (payload : List ℕ) (r : Record) → P (update_result own q signers payload r).answer
unfolding update_result
result-answer P k s d n own q signers payload r =
    go (other_without_quorum own q signers payload r) (leb q (size (joined_signers own q signers payload r))) (is_empty r) _ _ _
  where
    go : (second full fresh : Bool) (x y z : Record)
        → P
        (cond {A = Update} second (record { answer = noted; new_record = x })
        (cond full (record { answer = delivered; new_record = y }) (record { answer = cond fresh signed kept; new_record = z }))).answer
    go true full fresh x y z = n
    go false true fresh x y z = d
    go false false true x y z = s
    go false false false x y z = k

module _ (own q signers : ℕ) (payload : List ℕ) where
  -- a record that is not empty,
  case-filled : (r : Record) (o : Outcome Update) → UpdateCase q own own (Receive signers payload) r o → after o (λ result. is_empty result.new_record) false ≡ false
  case-filled r o (refusing why) = refl
  case-filled r o (signing absent few) = refl
  case-filled r o (signing-and-delivering absent enough) = refl
  case-filled r o (joining few) = refl
  case-filled r o (completing enough) = refl
  case-filled r o (replacing other absent enough) = refl
  case-filled r o (noting other few known) = refl

  pub update-filled : (r : Record) (result : Update) → update own q signers payload r ≡ done result → is_empty result.new_record ≡ false
  unfolding outcome
  update-filled r result e = rw e at (case-filled r (outcome q own (Receive signers payload) r) (update-case q own (Receive signers payload) r))

  -- and where a bundle is sent, with its payload
  case-payload : (r : Record) (o : Outcome Update) → UpdateCase q own own (Receive signers payload) r o
      → after o (λ result. sends result.answer) false ≡ true → after o (λ result. payload_of result.new_record) payload ≡ payload
  case-payload r o (refusing why) e = refl
  case-payload r o (signing absent few) e = refl
  case-payload r o (signing-and-delivering absent enough) e = refl
  case-payload r o (joining few) e = refl
  case-payload r o (completing enough) e = refl
  case-payload r o (replacing other absent enough) e = refl
  case-payload r o (noting other few known) e = absurd (false≢true e)

  pub update-payload : (r : Record) (result : Update) → update own q signers payload r ≡ done result → sends result.answer ≡ true
      → payload_of result.new_record ≡ payload
  unfolding outcome
  update-payload r result e =
      rw e at (case-payload r (outcome q own (Receive signers payload) r) (update-case q own (Receive signers payload) r))

  -- where it is delivered, a delivered one
  case-delivers : (r : Record) (o : Outcome Update) → UpdateCase q own own (Receive signers payload) r o
      → after o (λ result. delivers result.answer) false ≡ true → after o (λ result. is_delivered result.new_record) true ≡ true
  case-delivers r o (refusing why) e = refl
  case-delivers r o (signing absent few) e = absurd (false≢true e)
  case-delivers r o (signing-and-delivering absent enough) e = refl
  case-delivers r o (joining few) e = absurd (false≢true e)
  case-delivers r o (completing enough) e = refl
  case-delivers r o (replacing other absent enough) e = refl
  case-delivers r o (noting other few known) e = absurd (false≢true e)

  pub update-delivers : (r : Record) (result : Update) → update own q signers payload r ≡ done result → delivers result.answer ≡ true
      → is_delivered result.new_record ≡ true
  unfolding outcome
  update-delivers r result e =
      rw e at (case-delivers r (outcome q own (Receive signers payload) r) (update-case q own (Receive signers payload) r))
