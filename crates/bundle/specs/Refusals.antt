-- What a refused reading or writing leaves and gives, and when 7 never comes, of the definitions that the two contracts cite. They are proved in
-- proofs/Refusals.antt. That a bundle's elements are bytes and that signers fit 64 bits is what the types of the functions' arguments say.
-- Assumes nothing.
use Rattle.std.specs.Prelude.{◌≡◌, List, [], ℕ, ◌<◌, ◌^◌}
use Rattle.octets.specs.Octets.{Bytes}
use Rattle.refusal.specs.Outcome.{refused}
use Rattle.config.specs.declared.Config.{Config}
use Rattle.bundle.specs.Bundle.{read, payload_part, payload_place, empty_start, write, write_out}

-- R5.1: a refused writing leaves the outgoing bytes as they were, whatever their length.
abbrev pub RefusedWriteChangesNothing : Type 0
RefusedWriteChangesNothing =
    (config : Config) (sender seq signers : ℕ) (payload out : List ℕ) (number : ℕ)
    → write config sender seq signers payload out ≡ refused number → write_out config sender seq signers payload out ≡ out

-- R10.1: a refused reading, which has no buffer to change, gives the empty part at the bundle's start.
abbrev pub RefusedReadGivesNothing : Type 0
RefusedReadGivesNothing =
    (config : Config) (bundle : List ℕ) (number : ℕ) → read config bundle ≡ refused number
    → (payload_part config bundle ≡ []) × (payload_place config bundle ≡ empty_start)

-- R5.6: with 64 nodes each of the 64 bits is a node's, so that 7 never comes.
abbrev pub NeverSevenWith64 : Type 0
NeverSevenWith64 =
    (config : Config) → config.n ≡ 64
    → ((bundle : List ℕ) → Bytes bundle → read config bundle ≡ refused 7 → ⊥)
    × ((sender seq signers : ℕ) (payload out : List ℕ) → signers < 2 ^ 64 → write config sender seq signers payload out ≡ refused 7 → ⊥)
