-- Sets of nodes, for any number n of nodes (R17.7): a set is a test on node numbers, and its members are counted below n.
-- Assumes nothing.
use Rattle.std.specs.Prelude.{Bool, true, false, ◌&&◌, ◌||◌, ℕ, zero, suc, ◌+◌}

abbrev pub NodeSet : Type 0
NodeSet = ℕ → Bool

-- 1 for a node that counts, 0 for one that does not
abbrev pub indicator : Bool → ℕ
indicator true = 1
indicator false = 0

-- how many of the nodes 0 to n - 1 are in the set
unfoldable pub count : NodeSet → ℕ → ℕ
count p zero = 0
count p (suc n) = indicator (p n) + count p n

-- the nodes that are in both sets; in at least one of them
abbrev pub both : NodeSet → NodeSet → NodeSet
both p q u = p u && q u

abbrev pub either : NodeSet → NodeSet → NodeSet
either p q u = p u || q u
