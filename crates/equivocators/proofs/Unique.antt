-- A number or a word is one answer's, so that the contract leaves one answer. Assumes nothing.
use mathlib.Core.Path.{◌≡◌, sym, ap}
use Prim.Native.Nat.{ℕ}
use Rattle.std.specs.Prelude.{Result, Ok, Err}
use Rattle.refusal.specs.declared.Refusal.{Refusal}
use Rattle.refusal.specs.Refusal.{number_of}
use Rattle.refusal.proofs.Reasons.{refused-not-done}
use Rattle.refusal.proofs.Unique.{number-one, refused-number}
use Rattle.equivocators.specs.Equivocators.{naming_of}

pub naming-one : (a b : Result ℕ Refusal) → naming_of a ≡ naming_of b → a ≡ b
naming-one (Ok word) (Ok other) e = let same : word ≡ other = cc in ap Ok same
naming-one (Ok word) (Err reason) e = absurd (refused-not-done (number_of reason) word (sym e))
naming-one (Err reason) (Ok word) e = absurd (refused-not-done (number_of reason) word e)
naming-one (Err reason) (Err other) e = ap Err (number-one reason other (refused-number (number_of reason) (number_of other) e))
