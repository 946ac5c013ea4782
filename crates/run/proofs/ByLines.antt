-- Byte by byte is line by line: what is printed for an input that comes in bytes is what is printed where its lines end, one after the other.
-- Assumes nothing.
use mathlib.Core.Path.{◌≡◌, refl, ap, ap₂, ◌∙◌}
use mathlib.Core.Bool.{Bool, true, false, cond}
use mathlib.Core.List.{List, [], ◌∷◌, ◌++◌, append_assoc, append-nil}
use Prim.Native.Nat.{ℕ, suc, ◌≤◌, zero-le, suc-le-suc}
use native.Mathlib.Nat.{le_step}
use lib.Dec.{eqb}
use lib.ListN.{length, take}
use Rattle.text.specs.Text.{line_feed, onto, lines, empty}
use Rattle.stages.specs.declared.State.{State}
use Rattle.stages.specs.Stages.{line_space, after_line, line_records, line_text}
use Rattle.stages.proofs.LongLines.{front-enough}
use Rattle.lines.specs.Bytes.{Progress, after_line_end, line_end_text, with_byte, after_byte, byte_text, after_bytes, bytes_text}
use Rattle.lines.proofs.Pieces.{take-front, with_line}
use Rattle.run.specs.Stream.{closing_text, finished_text}

-- ---- the lines of an input of which something has come

-- the lines, where h is what has come of the first
lined : List ℕ → List ℕ → List (List ℕ)
lined h [] = cond (empty h) [] (h ∷ [])
lined h (b ∷ bs) = cond (eqb b line_feed) (h ∷ lined [] bs) (lined (h ++ (b ∷ [])) bs)

-- lines with h put before the first
before-first : List ℕ → List (List ℕ) → List (List ℕ)
before-first h [] = cond (empty h) [] (h ∷ [])
before-first h (line ∷ others) = (h ++ line) ∷ others

-- nothing put before them
onto-first-none : (ls : List (List ℕ)) → before-first [] ls ≡ ls
unfolding before-first empty
onto-first-none [] = refl
onto-first-none (line ∷ others) = refl

-- a text with a byte is not empty
not-empty : (h : List ℕ) (b : ℕ) → empty (h ++ (b ∷ [])) ≡ false
unfolding empty
not-empty [] b = refl
not-empty (x ∷ xs) b = refl

-- one byte more
first-onto : (h : List ℕ) (b : ℕ) (ls : List (List ℕ)) → before-first (h ++ (b ∷ [])) ls ≡ before-first h (onto b ls)
unfolding before-first onto
first-onto h b [] = rw (not-empty h b)
first-onto h b (line ∷ others) = ap (λ (first : List ℕ). first ∷ others) (append_assoc h (b ∷ []) line)

-- so what has come stands before the lines of the rest
lined-lines : (h input : List ℕ) → lined h input ≡ before-first h (lines input)
unfolding lined before-first lines
lined-lines h [] = refl
lined-lines h (b ∷ bs) = go (eqb b line_feed) (lined-lines [] bs) (lined-lines (h ++ (b ∷ [])) bs)
  where
    go : (t : Bool) → lined [] bs ≡ before-first [] (lines bs) → lined (h ++ (b ∷ [])) bs ≡ before-first (h ++ (b ∷ [])) (lines bs)
        → cond t (h ∷ lined [] bs) (lined (h ++ (b ∷ [])) bs) ≡ before-first h (cond t ([] ∷ lines bs) (onto b (lines bs)))
    go true fresh more = rw (append-nil h) (ap (λ (ls : List (List ℕ)). h ∷ ls) (fresh ∙ onto-first-none (lines bs)))
    go false fresh more = more ∙ first-onto h b (lines bs)

-- an input has no more lines than bytes
pub lines-few : (input : List ℕ) → length (lines input) ≤ length input
unfolding lines onto
lines-few [] = zero-le
lines-few (b ∷ bs) = go (eqb b line_feed) (lines bs) (lines-few bs)
  where
    go : (t : Bool) (ls : List (List ℕ)) → length ls ≤ length bs → length (cond t ([] ∷ ls) (onto b ls)) ≤ suc (length bs)
    go true ls h = suc-le-suc h
    go false [] h = suc-le-suc zero-le
    go false (line ∷ others) h = le_step h

-- ---- line by line

-- what is printed from a line's start on for these lines and the end
unfoldable pub played_text : (state : State) (records : List ℕ) (lines : List (List ℕ)) → List ℕ
played_text state records [] = closing_text state records
played_text state records (line ∷ others) = line_text state line records ++ played_text (after_line state line) (line_records state line records) others

-- what is printed for the rest of an input and its end
abbrev pub rest_text : (p : Progress) (input : List ℕ) → List ℕ
rest_text p input = bytes_text p input ++ finished_text (after_bytes p input)

-- it is what is printed line by line, where of the first line h has come
rest-lined : (state : State) (records h input : List ℕ)
    → rest_text (with_line state records (take line_space h)) input ≡ played_text state records (lined h input)
unfolding lined played_text after_bytes bytes_text finished_text empty after_byte byte_text after_line_end line_end_text with_byte
rest-lined state records [] [] = refl
rest-lined state records (x ∷ xs) [] =
    let alike = front-enough state (x ∷ xs) in
    ap₂ ◌++◌ (alike.printed records) (ap₂ closing_text alike.known (alike.left records))
rest-lined state records h (b ∷ bs) =
    go (eqb b line_feed) (λ next left. rest-lined next left [] bs) (rest-lined state records (h ++ (b ∷ [])) bs)
  where
    p : Progress
    p = with_line state records (take line_space h)

    go : (t : Bool)
        → ((next : State) (left : List ℕ) → rest_text (with_line next left []) bs ≡ played_text next left (lined [] bs))
        → rest_text (with_line state records (take line_space (h ++ (b ∷ [])))) bs ≡ played_text state records (lined (h ++ (b ∷ [])) bs)
        → cond t (line_end_text p) [] ++ bytes_text (cond t (after_line_end p) (with_byte p b)) bs ++ finished_text (after_bytes (cond t (after_line_end p) (with_byte p b)) bs)
        ≡ played_text state records (cond t (h ∷ lined [] bs) (lined (h ++ (b ∷ [])) bs))
    go true new more =
        let alike = front-enough state h in
        append_assoc (line_end_text p) (bytes_text (after_line_end p) bs) (finished_text (after_bytes (after_line_end p) bs))
        ∙ ap₂ ◌++◌ (alike.printed records)
        (ap₂ (λ (next : State) (left : List ℕ). rest_text (with_line next left []) bs) alike.known (alike.left records)
        ∙ new (after_line state h) (line_records state h records))
    go false new more = ap (λ (line : List ℕ). rest_text (with_line state records line) bs) (take-front line_space h (b ∷ [])) ∙ more

-- and from a line's start on
pub rest-by-lines : (state : State) (records input : List ℕ) → rest_text (with_line state records []) input ≡ played_text state records (lines input)
rest-by-lines state records input =
    rest-lined state records [] input ∙ ap (played_text state records) (lined-lines [] input ∙ onto-first-none (lines input))
