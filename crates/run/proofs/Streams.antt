-- What is printed for an input that comes in pieces is what specs/Run.antt says of the whole of it: the claims of specs/Stream.antt. Byte by byte is line by
-- line, and that is the text of `printed`; and what is kept between two pieces stands for what is known.
-- Assumes nothing.
use mathlib.Core.Path.{◌≡◌, refl, sym, ap, ap₂, ◌∙◌}
use mathlib.Core.List.{List, [], ◌∷◌, ◌++◌, append_assoc}
use Prim.Native.Nat.{ℕ}
use native.Mathlib.Omega.{arith}
use lib.ListN.{take}
use Rattle.text.specs.Text.{lines}
use Rattle.stages.specs.Stages.{start_state}
use Rattle.run.specs.Run.{printed}
use Rattle.lines.specs.declared.Run.{Run}
use Rattle.lines.specs.Bytes.{Progress, after_bytes, bytes_text, held_bytes, progress, kept_run, kept_line}
use Rattle.lines.proofs.Pieces.{pieces}
use Rattle.lines.proofs.Kept.{kept-after}
use Rattle.run.specs.Stream.{fresh, finished_text, start_run, used_of_piece, after_piece, piece_text, printed_in_pieces, used_input, Streams, InPieces}
use Rattle.run.proofs.ByLines.{rest_text, rest-by-lines, lines-few}
use Rattle.run.proofs.LineByLine.{lines-print}

-- the whole input
pub streams : Streams
unfolding printed fresh
streams records input size fits =
    rest-by-lines start_state records input ∙ lines-print records size (lines input) (omega (arith, lines-few input))

-- The pieces print what their bytes print together: what is kept from one to the next stands for what is known.
pieces-print : (run : Run) (line records : List ℕ) (parts : List (List ℕ))
    → printed_in_pieces run line records parts ≡ rest_text (progress run line records) (used_input parts)
unfolding printed_in_pieces used_input after_piece piece_text after_bytes bytes_text
pieces-print run line records [] = refl
pieces-print run line records (piece ∷ others) =
    let p : Progress = progress run line records in
    let part : List ℕ = take (used_of_piece piece) piece in
    let q : Progress = after_bytes p part in
    let (e, t) = pieces p part (used_input others) in
    let further : printed_in_pieces (kept_run q) (kept_line q) q.records others ≡ rest_text q (used_input others) =
    pieces-print (kept_run q) (kept_line q) q.records others ∙ ap (λ (now : Progress). rest_text now (used_input others)) (kept-after run line records part) in
    ap (λ (text : List ℕ). bytes_text p part ++ text) further
    ∙ sym (append_assoc (bytes_text p part) (bytes_text q (used_input others)) (finished_text (after_bytes q (used_input others))))
    ∙ ap₂ (λ (text : List ℕ) (last : Progress). text ++ finished_text last) (sym t) (sym e)

-- and the program starts afresh, whatever its buffers hold
starts-fresh : (line records : List ℕ) → progress start_run line records ≡ fresh records
unfolding progress held_bytes start_run fresh
starts-fresh line records = refl

pub in_pieces : InPieces
in_pieces line records parts size fits =
    pieces-print start_run line records parts
    ∙ ap (λ (p : Progress). rest_text p (used_input parts)) (starts-fresh line records)
    ∙ streams records (used_input parts) size fits
