-- When a record is well-formed, by its words: state by state, as a program tests it (`half_well_formed`), and what its first word then is.
-- Assumes nothing.
use mathlib.Core.Path.{◌≡◌, refl, sym, ap, ◌∙◌}
use mathlib.Core.Bool.{Bool, true, false, cond, true≢false, ◌&&◌, and-true, and-false, and-eq-true_iff}
use mathlib.Core.Logic.{inl, inr}
use Prim.Native.Nat.{ℕ, ◌/◌, ◌%◌}
use native.Mathlib.Omega.{arith}
use lib.Dec.{eqb, ltb, leb}
use lib.Pow.{pow_pos}
use borrow.Author.Tests.{ne_eqb, eqb-true, eqb-false, ltb-true}
use Rattle.octets.specs.Octets.{blank}
use Rattle.payload.specs.Payload as payload
use Rattle.block.specs.Block as block
use Rattle.note.specs.Note as note
use Rattle.note.proofs.Words as note-laws
use Rattle.note.proofs.Encoding.{blank-well-formed, note-reads}
use Rattle.signers.specs.Signers.{within, below, insert, member, size}
use Rattle.signers.proofs.Members.{lt-within, within-below, meets-node}
use Rattle.config.specs.declared.Config.{Config}
use Rattle.config.specs.Config.{quorum}
use Rattle.record.specs.declared.Record.{Record}
use Rattle.record.specs.Record.{decoded, state_allows, well_formed, bytes}
use Rattle.record.specs.Inner.{held_head, delivered_head, HasState, held_block, NoteReads, half_well_formed}
use Rattle.record.proofs.Words.{Fits, top, state-words, rest-words, signers-words, payload-words, note-words, blank-halves, blank-signers, empty-words, held-words, delivered-words}

module _ (r : Record) (f : Fits r) (config : Config) (sender : ℕ) where
  -- what is noted is well-formed
  abbrev pub note_fine : Bool
  note_fine = note.well_formed config sender (payload.bytes r.payload) (note.bytes r.note)

  -- by its words
  well-formed-words : well_formed config sender (bytes r)
      ≡ (ltb (r.head / top) 3
      && (eqb (r.head % top) 0 && (within r.signers config.n && (state_allows config sender (bytes r) (decoded (bytes r)) && note_fine))))
  unfolding well_formed
  well-formed-words = rw (state-words r f, rest-words r f, signers-words r f, payload-words r, note-words r)

  -- ---- an empty record

  -- an empty record is well-formed where it is blank
  pub well-formed-empty : r.head ≡ 0 → well_formed config sender (bytes r) ≡ blank (bytes r)
  unfolding state_allows
  well-formed-empty e =
      let none : r.head / top ≡ 0 = omega arith in
      let rest : r.head % top ≡ 0 = omega arith in
      well-formed-words ∙ rw (none, rest, empty-words r f none) (go (blank (bytes r)) refl)
    where
      go : (b : Bool) → blank (bytes r) ≡ b → (within r.signers config.n && (blank (bytes r) && note_fine)) ≡ blank (bytes r)
      go true z =
          let none = ((and-eq-true_iff (blank (block.bytes (held_block r))) _).0 (sym (blank-halves r) ∙ z)).1 in
          let nodes = ap (λ (x : ℕ). within x config.n) (blank-signers r f z) ∙ lt-within 0 config.n (pow_pos config.n) in
          let fine = blank-well-formed config sender (payload.bytes r.payload) (note.bytes r.note) (note-laws.bytes-length r.note) none in
          rw (nodes, z) fine
      go false z = rw z (and-false (within r.signers config.n))

  -- ---- any other

  -- a signer past n, the sender's signature missing, or a malformed note makes a record malformed that is not blank
  pub malformed-past : within r.signers config.n ≡ false → well_formed config sender (bytes r) ≡ false
  malformed-past e = well-formed-words ∙ simp (e, and-false)

  pub malformed-note : note_fine ≡ false → well_formed config sender (bytes r) ≡ false
  malformed-note e = well-formed-words ∙ simp (e, and-false)

  pub malformed-unsigned : (r.head ≡ 0 → ⊥) → member r.signers sender ≡ false → well_formed config sender (bytes r) ≡ false
  unfolding state_allows decoded
  malformed-unsigned e m = well-formed-words ∙ go (eqb (r.head / top) 0) refl (eqb (r.head / top) 1) refl
    where
      go : (a : Bool) → eqb (r.head / top) 0 ≡ a → (b : Bool) → eqb (r.head / top) 1 ≡ b
          → (ltb (r.head / top) 3
          && (eqb (r.head % top) 0 && (within r.signers config.n && (state_allows config sender (bytes r) (decoded (bytes r)) && note_fine)))) ≡ false
      go true x b y =
          let none = eqb-true (r.head / top) 0 x in
          rw (ne_eqb (r.head % top) 0 (λ z. e (omega arith)), and-false)
      go false x true y = rw (state-words r f, x, y, signers-words r f, m) (simp and-false)
      go false x false y = rw (state-words r f, x, y, signers-words r f, m) (simp and-false)

  -- held: the sender and we have signed
  pub well-formed-held : note_fine ≡ true → r.head ≡ held_head → within r.signers config.n ≡ true → member r.signers sender ≡ true
      → well_formed config sender (bytes r) ≡ member r.signers config.own
  unfolding state_allows
  well-formed-held fine e i m = well-formed-words ∙ rw (held-words r f (omega arith), e, i, m, fine) (and-true (member r.signers config.own))

  -- delivered: the sender and a quorum have signed
  pub well-formed-delivered : note_fine ≡ true → r.head ≡ delivered_head → within r.signers config.n ≡ true → member r.signers sender ≡ true
      → well_formed config sender (bytes r) ≡ leb (quorum config) (size r.signers)
  unfolding state_allows
  well-formed-delivered fine e i m = well-formed-words ∙ rw (delivered-words r f (omega arith), e, i, m, fine) (and-true (leb (quorum config) (size r.signers)))

  -- and there is no other state
  pub malformed-state : (r.head ≡ 0 → ⊥) → (r.head ≡ held_head → ⊥) → (r.head ≡ delivered_head → ⊥) → well_formed config sender (bytes r) ≡ false
  malformed-state zero one two = well-formed-words ∙ go (ltb (r.head / top) 3) refl (eqb (r.head % top) 0) refl
    where
      go : (a : Bool) → ltb (r.head / top) 3 ≡ a → (b : Bool) → eqb (r.head % top) 0 ≡ b
          → (a && (b && (within r.signers config.n && (state_allows config sender (bytes r) (decoded (bytes r)) && note_fine)))) ≡ false
      go false x b y = refl
      go true x false y = refl
      go true x true y =
          let small = ltb-true (r.head / top) 3 x in
          let whole = eqb-true (r.head % top) 0 y in
          absurd (omega arith)

  -- ---- the same by sets that a caller has

  -- the tests of `half_well_formed`, with what the sets stand for
  tests : Bool → Bool → Bool → Bool → Bool
  tests inside held sender delivered =
      inside
      && cond held (sender && member r.signers config.own)
      (sender && (delivered && leb (quorum config) (size r.signers)))

  pub half-well-formed : note_fine ≡ true → (r.head ≡ 0 → ⊥)
      → half_well_formed (below config.n) (quorum config) (insert 0 config.own) (insert 0 sender) r ≡ well_formed config sender (bytes r)
  unfolding half_well_formed tests
  half-well-formed fine some =
      let s = f.signers-fits in
      rw (within-below r.signers config.n s, meets-node r.signers sender s, meets-node r.signers config.own s)
      (go (within r.signers config.n) refl (eqb r.head held_head) refl (member r.signers sender) refl (eqb r.head delivered_head) refl)
    where
      go : (i : Bool) → within r.signers config.n ≡ i → (b : Bool) → eqb r.head held_head ≡ b
          → (m : Bool) → member r.signers sender ≡ m → (d : Bool) → eqb r.head delivered_head ≡ d
          → tests i b m d ≡ well_formed config sender (bytes r)
      go false x b y m z d v = sym (malformed-past x)
      go true x true y false z d v = sym (malformed-unsigned some z)
      go true x true y true z d v = sym (well-formed-held fine (eqb-true r.head held_head y) x z)
      go true x false y false z d v = sym (malformed-unsigned some z)
      go true x false y true z true v = sym (well-formed-delivered fine (eqb-true r.head delivered_head v) x z)
      go true x false y true z false v = sym (malformed-state some (eqb-false r.head held_head y) (eqb-false r.head delivered_head v))

  -- a well-formed record's note is well-formed, so that its bytes are those of the note that they write
  pub well-formed-note-reads : well_formed config sender (bytes r) ≡ true → NoteReads r.note
  well-formed-note-reads ok = go note_fine refl
    where
      go : (b : Bool) → note_fine ≡ b → NoteReads r.note
      go true fine = note-reads r.note config sender (payload.bytes r.payload) fine
      go false fine = absurd (true≢false (sym ok ∙ malformed-note fine))

  -- a well-formed record's first word is a state and seven zero bytes
  pub well-formed-has-state : well_formed config sender (bytes r) ≡ true → HasState r
  well-formed-has-state ok = go (eqb r.head 0) refl (eqb r.head held_head) refl (eqb r.head delivered_head) refl
    where
      go : (a : Bool) → eqb r.head 0 ≡ a → (b : Bool) → eqb r.head held_head ≡ b → (d : Bool) → eqb r.head delivered_head ≡ d → HasState r
      go true e b y d v = inl (eqb-true r.head 0 e)
      go false e true y d v = inr (inl (eqb-true r.head held_head y))
      go false e false y true v = inr (inr (eqb-true r.head delivered_head v))
      go false e false y false v =
          absurd (true≢false (sym ok ∙ malformed-state (eqb-false r.head 0 e) (eqb-false r.head held_head y) (eqb-false r.head delivered_head v)))

-- one that is neither empty nor delivered is held
pub has-state-held : (r : Record) → HasState r → (r.head ≡ 0 → ⊥) → (r.head ≡ delivered_head → ⊥) → r.head ≡ held_head
has-state-held r (inl e) some open-yet = absurd (some e)
has-state-held r (inr (inl e)) some open-yet = e
has-state-held r (inr (inr e)) some open-yet = absurd (open-yet e)
