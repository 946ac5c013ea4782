-- Pieces of the input: one after the other, one with no line feed in it, and one that ends a line. From the definitions of specs/Bytes.antt, for any
-- bytes. And how much is printed for a piece.
-- Assumes nothing.
use mathlib.Core.Path.{◌≡◌, refl, sym, ap, ap₂, ◌∙◌}
use mathlib.Core.Bool.{Bool, true, false, cond}
use mathlib.Core.List.{List, [], ◌∷◌, ◌++◌, append_assoc, append-nil}
use Prim.Native.Nat.{ℕ, zero, suc, ◌*◌, ◌≤◌}
use native.Mathlib.Omega.{arith}
use lib.Dec.{eqb, lit≤}
use lib.ListN.{length, take, length-append}
use Rattle.text.specs.Text.{before, line_feed}
use Rattle.step.specs.Step.{row_space}
use Rattle.stages.specs.declared.State.{State}
use Rattle.stages.specs.Stages.{line_space}
use Rattle.stages.proofs.LineEnds.{line-length}
use Rattle.lines.specs.Bytes.{Progress, after_line_end, line_end_text, with_byte, after_byte, byte_text, after_bytes, bytes_text, Pieces}

-- a piece after a piece is the two together
pub pieces : Pieces
unfolding after_bytes bytes_text
pieces p [] second = (refl, refl)
pieces p (b ∷ bs) second =
    let (e, t) = pieces (after_byte p b) bs second in
    (e, ap (λ (text : List ℕ). byte_text p b ++ text) t ∙ sym (append_assoc (byte_text p b) (bytes_text (after_byte p b) bs) (bytes_text (after_bytes (after_byte p b) bs) second)))

-- what is known with this of a line
abbrev pub with_line : (state : State) (records line : List ℕ) → Progress
with_line state records line = record { state = state; line = line; records = records }

-- the front of a front with more after it
pub take-front : (k : ℕ) (xs ys : List ℕ) → take k (take k xs ++ ys) ≡ take k (xs ++ ys)
take-front zero xs ys = refl
take-front (suc k) [] ys = refl
take-front (suc k) (x ∷ xs) ys = ap (λ (r : List ℕ). x ∷ r) (take-front k xs ys)

module _ (state : State) (records : List ℕ) where
  -- bytes with no line feed among them are added to what there is of the line, as far as it is held, and nothing is printed
  pub bytes-held : (h xs : List ℕ) → before line_feed xs ≡ length xs
      → (after_bytes (with_line state records (take line_space h)) xs ≡ with_line state records (take line_space (h ++ xs)))
      × (bytes_text (with_line state records (take line_space h)) xs ≡ [])
  unfolding after_bytes bytes_text after_byte byte_text before with_byte
  bytes-held h [] e = (ap (λ (line : List ℕ). with_line state records (take line_space line)) (sym (append-nil h)), refl)
  bytes-held h (x ∷ xs) e = go (eqb x line_feed) e (bytes-held (h ++ (x ∷ [])) xs)
    where
      p : Progress
      p = with_line state records (take line_space h)

      go : (b : Bool) → cond b 0 (suc (before line_feed xs)) ≡ suc (length xs)
          → (before line_feed xs ≡ length xs
          → (after_bytes (with_line state records (take line_space (h ++ (x ∷ [])))) xs ≡ with_line state records (take line_space (h ++ (x ∷ []) ++ xs)))
          × (bytes_text (with_line state records (take line_space (h ++ (x ∷ [])))) xs ≡ []))
          → (after_bytes (cond b (after_line_end p) (with_byte p x)) xs ≡ with_line state records (take line_space (h ++ (x ∷ xs))))
          × (cond b (line_end_text p) [] ++ bytes_text (cond b (after_line_end p) (with_byte p x)) xs ≡ [])
      go true e below = absurd (omega arith)
      go false e below =
          let (more, none) = below (omega arith) in
          let front : with_byte p x ≡ with_line state records (take line_space (h ++ (x ∷ []))) = ap (with_line state records) (take-front line_space h (x ∷ [])) in
          rw front (more ∙ ap (λ (line : List ℕ). with_line state records (take line_space line)) (append_assoc h (x ∷ []) xs), none)

  -- a line feed ends the line
  module _ (h ys : List ℕ) (none : before line_feed ys ≡ length ys) where
    one-feed : (p : Progress) → (after_bytes p (line_feed ∷ []) ≡ after_line_end p) × (bytes_text p (line_feed ∷ []) ≡ line_end_text p)
    unfolding after_bytes bytes_text after_byte byte_text
    one-feed p = (refl, append-nil (line_end_text p))

    pub line-ended : after_bytes (with_line state records (take line_space h)) (ys ++ (line_feed ∷ [])) ≡ after_line_end (with_line state records (take line_space (h ++ ys)))
    line-ended =
        (pieces (with_line state records (take line_space h)) ys (line_feed ∷ [])).0
        ∙ ap (λ (p : Progress). after_bytes p (line_feed ∷ [])) (bytes-held h ys none).0
        ∙ (one-feed (with_line state records (take line_space (h ++ ys)))).0

    pub line-ended-text : bytes_text (with_line state records (take line_space h)) (ys ++ (line_feed ∷ [])) ≡ line_end_text (with_line state records (take line_space (h ++ ys)))
    line-ended-text =
        (pieces (with_line state records (take line_space h)) ys (line_feed ∷ [])).1
        ∙ ap₂ (λ (p : Progress) (text : List ℕ). text ++ bytes_text p (line_feed ∷ [])) (bytes-held h ys none).0 (bytes-held h ys none).1
        ∙ (one-feed (with_line state records (take line_space (h ++ ys)))).1

-- ---- how much is printed

-- for any byte,
byte-length : (p : Progress) (b : ℕ) → length (byte_text p b) ≤ row_space
unfolding byte_text line_end_text
byte-length p b = go (eqb b line_feed)
  where
    go : (t : Bool) → length (cond t (line_end_text p) []) ≤ row_space
    go true = line-length p.state p.line p.records
    go false = lit≤ tt

-- and for a piece
pub bytes-length : (p : Progress) (xs : List ℕ) → length (bytes_text p xs) ≤ row_space * length xs
unfolding bytes_text
bytes-length p [] = lit≤ tt
bytes-length p (b ∷ bs) =
    omega (arith, length-append (byte_text p b) (bytes_text (after_byte p b) bs), byte-length p b, bytes-length (after_byte p b) bs)
