-- What `encode_like` promises the calls: the bytes of a bundle in the slot of another one. No public contract of the calls rests on this; a reader may
-- pass it over.
-- Assumes nothing.
use Rattle.std.specs.Prelude.{cond, ◌&&◌, List, ◌++◌, ℕ, eqb, length}
use Rattle.octets.specs.Octets.{bytes_of, part}
use Rattle.bundle.specs.Bundle.{bundle_size}

-- what a buffer holds after a bundle is written over it that has the slot of another one, as it stands there, if both have a bundle's length
unfoldable pub encoded_like : (bundle : List ℕ) (signers : ℕ) (payload out : List ℕ) → List ℕ
encoded_like bundle signers payload out =
    cond (eqb (length bundle) bundle_size && eqb (length out) bundle_size) (part 0 8 bundle ++ (bytes_of 8 signers ++ payload)) out
