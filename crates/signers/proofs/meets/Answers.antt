-- `signers::meets` meets its contract. Assumes nothing.
use mathlib.Core.Path.{refl}
use Rattle.signers.specs.Signers.{meets}
use Rattle.signers.proofs.meets.Goals as goal

pub returns : goal.returns
unfolding meets
returns c = refl
