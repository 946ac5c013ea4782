-- R3.2, the other way: the word of a set of nodes. specs/Sets.antt has sets as tests on node numbers, and specs/Signers.antt which nodes a word has.
-- Assumes nothing.
use Rattle.std.specs.Prelude.{cond, ℕ, zero, suc}
use Rattle.signers.specs.Sets.{NodeSet}
use Rattle.signers.specs.Signers.{insert}

-- of the nodes below n, at most 64, those that are in the set have their bit
unfoldable pub set_word : NodeSet → (n : ℕ) → ℕ
set_word p zero = 0
set_word p (suc n) = cond (p n) (insert (set_word p n) n) (set_word p n)
