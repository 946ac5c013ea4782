-- `encode` meets its contract: the four words are those of the bundle. Assumes nothing.
use Prim.Native.Nat.{◌<◌}
use native.Mathlib.Omega.{arith}
use Rattle.bundle.proofs.Fields.{filled-encoded}
use Rattle.bundle.proofs.encode.Goals as goal

pub returns : goal.returns
returns c =
    let filled = c in
    let a = filled.args in
    let sender : a.header.sender < 256 = omega arith in
    let seq : a.header.seq < 256 = omega arith in
    filled-encoded a.header a.payload _ _ _ filled.fill.ensures (omega arith) sender seq
