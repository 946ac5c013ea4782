-- Receiving a bundle, one case after the other, as the code meets them, and what the code then answers.
-- Assumes nothing.
use mathlib.Core.Path.{◌≡◌, refl, sym, ◌∙◌}
use mathlib.Core.Bool.{Bool, true, false, and-false}
use mathlib.Core.List.{List}
use Prim.Native.Nat.{ℕ, ◌≤◌, ◌<◌}
use borrow.Author.Tests.{le-leb, lt-leb, lt-ltb, le-ltb}
use Rattle.octets.specs.Octets.{same}
use Rattle.octets.proofs.Same.{same_self}
use Rattle.signers.specs.Signers.{member, insert, union, size}
use Rattle.refusal.specs.Outcome.{Outcome, refused, done, unless}
use Rattle.refusal.proofs.Reasons.{refused-not-done}
use Rattle.protocol.specs.Update.{Note, Nothing, Noted, Answer, Update, Empty, Held, Delivered, noted_signers, notes_other, kept, signed, delivered, noted, update_reasons, joined_signers, update_result, update}
use Rattle.config.specs.declared.Config.{Config}
use Rattle.config.specs.Config.{quorum}
use Rattle.note.specs.Note as note
use Rattle.record.specs.Record.{layout, encoding, decoded, well_formed, received, encoded_update}

module _ (own q signers : ℕ) (payload : List ℕ) where
  -- an empty record
  pub update-unknown : member signers own ≡ true → update own q signers payload Empty ≡ refused 23
  unfolding update update_reasons unless
  update-unknown e = rw e

  pub update-at-once : member signers own ≡ false → q ≤ size (insert signers own)
      → update own q signers payload Empty ≡ done (record { answer = delivered; new_record = Delivered (insert signers own) payload Nothing })
  unfolding update update_reasons unless update_result joined_signers
  update-at-once e l = rw (e, le-leb q (size (insert signers own)) l)

  pub update-signed : member signers own ≡ false → size (insert signers own) < q
      → update own q signers payload Empty ≡ done (record { answer = signed; new_record = Held (insert signers own) payload Nothing })
  unfolding update update_reasons unless update_result joined_signers
  update-signed e l = rw (e, lt-leb q (size (insert signers own)) l)

  -- the payload is held, signed by `known`
  module _ (known : ℕ) (note : Note) where
    pub update-full : q ≤ size (union known signers)
        → update own q signers payload (Held known payload note) ≡ done (record { answer = delivered; new_record = Delivered (union known signers) payload note })
    unfolding update update_reasons unless update_result joined_signers
    update-full l = rw (same_self payload, and-false (member signers own), le-leb q (size (union known signers)) l)

    pub update-kept : size (union known signers) < q
        → update own q signers payload (Held known payload note) ≡ done (record { answer = kept; new_record = Held (union known signers) payload note })
    unfolding update update_reasons unless update_result joined_signers
    update-kept l = rw (same_self payload, and-false (member signers own), lt-leb q (size (union known signers)) l)

  -- another payload is held
  module _ (known : ℕ) (first : List ℕ) (note : Note) (other : same first payload ≡ false) where
    pub update-other-unknown : member signers own ≡ true → update own q signers payload (Held known first note) ≡ refused 23
    unfolding update update_reasons unless
    update-other-unknown e = rw (other, e)

    pub update-other-full : member signers own ≡ false → q ≤ size signers
        → update own q signers payload (Held known first note) ≡ done (record { answer = delivered; new_record = Delivered signers payload (Noted known first) })
    unfolding update update_reasons unless update_result joined_signers
    update-other-full e l = rw (other, e, le-ltb (size signers) q l, le-leb q (size signers) l)

    -- a third is noted, or none or this one
    pub update-third : member signers own ≡ false → size signers < q → notes_other note payload ≡ true
        → update own q signers payload (Held known first note) ≡ refused 24
    unfolding update update_reasons unless
    update-third e l t = rw (other, e, lt-ltb (size signers) q l, t)

    pub update-noted : member signers own ≡ false → size signers < q → notes_other note payload ≡ false
        → update own q signers payload (Held known first note)
        ≡ done (record { answer = noted; new_record = Held known first (Noted (union (noted_signers note) signers) payload) })
    unfolding update update_reasons unless update_result
    update-noted e l t = rw (other, e, lt-ltb (size signers) q l, t)

  -- the slot is delivered
  pub update-delivered : (known : ℕ) (first : List ℕ) (note : Note) → update own q signers payload (Delivered known first note) ≡ refused 22
  unfolding update update_reasons unless
  update-delivered known first note = refl

-- what the code answers: the number of a refusal, or the answer and the record's bytes
pub encoded-refused : (outcome : Outcome Update) (number : ℕ) → outcome ≡ refused number → refused number ≡ encoded_update outcome
unfolding encoded_update
encoded-refused outcome number e = rw e

module _ (outcome : Outcome Update) (signers found : ℕ) (payload bytes : List ℕ) (aside : Note) (noted-bytes : List ℕ) (same-signers : found ≡ signers)
    (same-note : noted-bytes ≡ note.encoding aside) where
  pub encoded-delivered : outcome ≡ done (record { answer = delivered; new_record = Delivered signers payload aside })
      → bytes ≡ layout 2 found payload noted-bytes → done (delivered, bytes) ≡ encoded_update outcome
  unfolding encoded_update encoding
  encoded-delivered e b = rw (e, b, same-signers, same-note)

  pub encoded-held : (answer : Answer) → outcome ≡ done (record { answer = answer; new_record = Held signers payload aside })
      → bytes ≡ layout 1 found payload noted-bytes → done (answer, bytes) ≡ encoded_update outcome
  unfolding encoded_update encoding
  encoded-held answer e b = rw (e, b, same-signers, same-note)

-- a bundle on a record: a malformed one refuses it, and a well-formed one is updated
module _ (config : Config) (sender signers : ℕ) (payload found : List ℕ) where
  pub received-malformed : well_formed config sender found ≡ false → received config sender signers payload found ≡ refused 21
  unfolding received unless
  received-malformed e = rw e

  pub received-well-formed : well_formed config sender found ≡ true
      → received config sender signers payload found ≡ update config.own (quorum config) signers payload (decoded found)
  unfolding received unless
  received-well-formed e = rw e

  -- what was done was done on a well-formed record
  pub received-done : (result : Update) → received config sender signers payload found ≡ done result
      → (well_formed config sender found ≡ true) × (update config.own (quorum config) signers payload (decoded found) ≡ done result)
  received-done result e = go (well_formed config sender found) refl
    where
      go : (b : Bool) → well_formed config sender found ≡ b
          → (well_formed config sender found ≡ true) × (update config.own (quorum config) signers payload (decoded found) ≡ done result)
      go true f = (f, sym (received-well-formed f) ∙ e)
      go false f = absurd (refused-not-done 21 result (sym (received-malformed f) ∙ e))
