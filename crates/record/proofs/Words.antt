-- A record as a program has it, two words, a payload and a note, and its bytes: what is loaded and made, its state, signers and payload, and the record on
-- values that it stands for.
-- Assumes nothing.
use mathlib.Core.Path.{◌≡◌, refl, sym, ap, ap₂, ◌∙◌}
use mathlib.Core.Bool.{Bool, true, false, cond, ◌&&◌, and-eq-true_iff}
use mathlib.Core.List.{List, [], ◌++◌, append-nil}
use Prim.Native.Nat.{ℕ, ◌/◌, ◌%◌, ◌^◌, ◌<◌}
use native.Mathlib.Nat.{mod-eq_of_lt, le_of_eq}
use native.Mathlib.Omega.{arith}
use lib.Dec.{eqb, ltb}
use lib.ListN.{length, take, drop, length-drop, take-append-drop, drop_of_length-le}
use lib.Seq.{take_all, take_at, drop_at, length-take-le}
use borrow.Author.Tests.{eq-eqb, ne_eqb, eqb-true, eqb-false, ltb-true, ltb-false}
use Rattle.octets.specs.Octets.{bytes_of, blank, part}
use Rattle.octets.proofs.Numbers.{length_part, number-bytes_of}
use Rattle.octets.proofs.Same.{blank-append, blank-low}
use Rattle.payload.specs.declared.Payload.{Payload}
use Rattle.payload.specs.Payload as payload
use Rattle.payload.proofs.Laws as payload-laws
use Rattle.block.specs.Block as block
use Rattle.block.proofs.Laws as block-laws
use Rattle.note.specs.declared.Note.{Note}
use Rattle.note.specs.Note as note
use Rattle.note.proofs.Words as note-laws
use Rattle.config.specs.Config.{record_size}
use Rattle.protocol.specs.Update as protocol
use Rattle.protocol.specs.Update.{Nothing, Empty, Held, Delivered}
use Rattle.record.specs.declared.Record.{Record}
use Rattle.record.specs.Record.{layout, note_at, state_field, signers_field, payload_field, note_field, decoded, bytes, loaded}
use Rattle.record.specs.Inner.{held_head, delivered_head, held_block}

-- each word fits 64 bits, as its type says
pub record Fits (r : Record) : Type 0 where
  pub head-fits : r.head < 2 ^ 64
  pub signers-fits : r.signers < 2 ^ 64
  pub payload-fits : payload-laws.Fits r.payload
  pub note-fits : note-laws.Fits r.note

-- its two halves, what it holds and what it notes
pub half-bytes : (r : Record) → block.bytes (held_block r) ++ note.bytes r.note ≡ bytes r
unfolding bytes block.bytes payload.bytes bytes_of
half-bytes r = refl

-- all 64 bytes are zero where those of both halves are
pub blank-halves : (r : Record) → blank (bytes r) ≡ (blank (block.bytes (held_block r)) && blank (note.bytes r.note))
blank-halves r = ap blank (sym (half-bytes r)) ∙ blank-append (block.bytes (held_block r)) (note.bytes r.note)

half-fits : (r : Record) → Fits r → block-laws.Fits (held_block r)
half-fits r f = record { first_fits = f.head-fits; second_fits = f.signers-fits; payload-fits = f.payload-fits }

-- ---- what is loaded, and what is made

-- the 64 bytes, by their halves, or an empty record
pub loaded-whole : (xs : List ℕ) (r : Record) → length xs ≡ record_size → block.bytes (held_block r) ≡ block.loaded (part 0 note_at xs)
    → note.bytes r.note ≡ block.loaded (part note_at note.note_size xs) → bytes r ≡ loaded xs
unfolding loaded
loaded-whole xs r l first second =
    sym (half-bytes r)
    ∙ ap₂ ◌++◌ (first ∙ block-laws.loaded_self (part 0 note_at xs) (length_part xs 0 note_at (omega arith)))
    (second
    ∙ block-laws.loaded_self (part note_at note.note_size xs) (length_part xs note_at note.note_size (omega arith))
    ∙ take_all note.note_size (drop note_at xs) (simp length-drop (omega arith)))
    ∙ take-append-drop note_at xs
    ∙ rw (eq-eqb (length xs) record_size l)

pub loaded-other : (xs : List ℕ) (n : Note) → (length xs ≡ record_size → ⊥) → note.bytes n ≡ note.encoding Nothing
    → bytes (record { head = 0; signers = 0; payload = record { high = 0; low = 0 }; note = n }) ≡ loaded xs
unfolding loaded bytes payload.bytes bytes_of note.encoding
loaded-other xs n l e = rw (ne_eqb (length xs) record_size l, e)

-- two halves stored over 64 bytes, one after the other: the second is put where the first has left the slice
module _ (xs first second : List ℕ) (long : length xs ≡ record_size) (whole : length first ≡ note_at) where
  first-stored : (ys : List ℕ) → ys ≡ cond (eqb (length (take note_at xs)) block.block_size) first (take note_at xs) → ys ≡ first
  first-stored ys e = e ∙ rw (eq-eqb (length (take note_at xs)) block.block_size (length-take-le note_at xs (omega arith)))

  pub stored-halves : (ys zs : List ℕ) → ys ≡ cond (eqb (length (take note_at xs)) block.block_size) first (take note_at xs)
      → zs
      ≡ cond (eqb (length (take note.note_size (drop note_at (ys ++ drop note_at xs)))) note.note_size) second (take note.note_size (drop note_at (ys ++ drop note_at xs)))
      → take note_at (ys ++ drop note_at xs) ++ (zs ++ drop note.note_size (drop note_at (ys ++ drop note_at xs))) ≡ first ++ second
  stored-halves ys zs e f =
      let y : ys ≡ first = first-stored ys e in
      let front : take note_at (ys ++ drop note_at xs) ≡ first = rw y (take_at first (drop note_at xs) note_at whole) in
      let rest : drop note_at (ys ++ drop note_at xs) ≡ drop note_at xs = rw y (drop_at first (drop note_at xs) note_at whole) in
      let room : length (drop note_at xs) ≡ note.note_size = simp length-drop (omega arith) in
      let z : zs ≡ second =
      f ∙ rw (rest, eq-eqb (length (take note.note_size (drop note_at xs))) note.note_size (length-take-le note.note_size (drop note_at xs) (omega arith))) in
      let none : drop note.note_size (drop note_at (ys ++ drop note_at xs)) ≡ [] =
      ap (drop note.note_size) rest ∙ drop_of_length-le (drop note_at xs) {i = note.note_size} (omega arith) in
      rw (front, z, none) (ap (λ (r : List ℕ). first ++ r) (append-nil second))

-- a held and a delivered record
pub held_bytes : (signers : ℕ) (p : Payload) (n : Note)
    → bytes (record { head = held_head; signers = signers; payload = p; note = n }) ≡ layout 1 signers (payload.bytes p) (note.bytes n)
unfolding layout bytes bytes_of
held_bytes signers p n = refl

pub delivered-bytes : (signers : ℕ) (p : Payload) (n : Note)
    → bytes (record { head = delivered_head; signers = signers; payload = p; note = n }) ≡ layout 2 signers (payload.bytes p) (note.bytes n)
unfolding layout bytes bytes_of
delivered-bytes signers p n = refl

-- ---- the fields of its bytes

-- the weight of the first byte of eight
abbrev pub top : ℕ
top = 0x100_0000_0000_0000

-- payload and note
pub payload-words : (r : Record) → payload_field (bytes r) ≡ payload.bytes r.payload
unfolding bytes payload.bytes bytes_of
payload-words r = refl

pub note-words : (r : Record) → note_field (bytes r) ≡ note.bytes r.note
unfolding bytes payload.bytes bytes_of
note-words r = take_all note.note_size (note.bytes r.note) (le_of_eq (note-laws.bytes-length r.note))

module _ (r : Record) (f : Fits r) where
  -- the state is the first byte, and seven bytes follow it
  pub state-words : state_field (bytes r) ≡ r.head / top
  unfolding bytes bytes_of
  state-words = let h = f.head-fits in mod-eq_of_lt (omega arith)

  pub rest-words : blank (part 1 7 (bytes r)) ≡ eqb (r.head % top) 0
  unfolding bytes bytes_of
  rest-words = blank-low 7 r.head

  pub signers-words : signers_field (bytes r) ≡ r.signers
  unfolding bytes bytes_of
  signers-words = number-bytes_of 8 r.signers f.signers-fits

  -- a blank record has no signers
  pub blank-signers : blank (bytes r) ≡ true → r.signers ≡ 0
  blank-signers z =
      let half = ((and-eq-true_iff (blank (block.bytes (held_block r))) _).0 (sym (blank-halves r) ∙ z)).0 in
      let words = sym (block-laws.blank-words (held_block r) (half-fits r f)) ∙ half in
      let others = ((and-eq-true_iff (eqb r.head 0) _).0 words).1 in
      eqb-true r.signers 0 ((and-eq-true_iff (eqb r.signers 0) _).0 others).0

  -- ---- the record on values, by the state
  pub empty-words : r.head / top ≡ 0 → decoded (bytes r) ≡ Empty
  unfolding decoded
  empty-words e = rw (state-words, e)

  pub held-words : r.head / top ≡ 1 → decoded (bytes r) ≡ Held r.signers (payload.bytes r.payload) (note.decoded (note.bytes r.note))
  unfolding decoded
  held-words e = rw (state-words, e, signers-words, payload-words r, note-words r)

  pub delivered-words : 1 < r.head / top → decoded (bytes r) ≡ Delivered r.signers (payload.bytes r.payload) (note.decoded (note.bytes r.note))
  unfolding decoded
  delivered-words l =
      rw (state-words, ne_eqb (r.head / top) 0 (λ z. omega arith), ne_eqb (r.head / top) 1 (λ z. omega arith), signers-words, payload-words r, note-words r)

  -- it is delivered where its state is neither empty nor held
  pub delivered-state : ltb 1 (r.head / top) ≡ protocol.is_delivered (decoded (bytes r))
  delivered-state = go (ltb 1 (r.head / top)) refl (eqb (r.head / top) 0) refl
    where
      go : (a : Bool) → ltb 1 (r.head / top) ≡ a → (b : Bool) → eqb (r.head / top) 0 ≡ b → a ≡ protocol.is_delivered (decoded (bytes r))
      go true x b y = rw (delivered-words (ltb-true 1 (r.head / top) x))
      go false x true y = rw (empty-words (eqb-true (r.head / top) 0 y))
      go false x false y =
          let few = ltb-false 1 (r.head / top) x in
          let some = eqb-false (r.head / top) 0 y in
          rw (held-words (omega arith))
