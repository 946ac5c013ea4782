-- A note is known by its bytes, so that the contracts of this crate leave one result. That a word is below 2 to the power 64 is what its type says.
-- Assumes nothing.
use mathlib.Core.Path.{◌≡◌, sym, ap, ◌∙◌}
use mathlib.Core.List.{List}
use Prim.Native.Nat.{ℕ}
use Rattle.octets.specs.Octets.{number, part, bytes_of}
use Rattle.octets.proofs.Numbers.{number-bytes_of}
use Rattle.payload.proofs.Laws as payload-laws
use Rattle.block.specs.Block.{second_at}
use Rattle.note.specs.declared.Note.{Note}
use Rattle.note.specs.Note.{signers_field, payload_field, bytes}
use Rattle.note.proofs.Words.{Fits, signers-words, payload-words}

unfoldable pub note_from : List ℕ → Note
note_from xs = record { signers = signers_field xs; zero = number (part second_at 8 xs); payload = payload-laws.payload_from (payload_field xs) }

zero-back : (n : Note) → Fits n → number (part second_at 8 (bytes n)) ≡ n.zero
unfolding bytes bytes_of
zero-back n f = number-bytes_of 8 n.zero f.zero-fits

pub note-back : (n : Note) → Fits n → note_from (bytes n) ≡ n
unfolding note_from
note-back n f = rw (signers-words n f, zero-back n f, payload-words n, payload-laws.payload-back n.payload f.payload-fits)

pub note-unique : (a b : Note) → Fits a → Fits b → bytes a ≡ bytes b → a ≡ b
note-unique a b u v e = sym (note-back a u) ∙ ap note_from e ∙ note-back b v
