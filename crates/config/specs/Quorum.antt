-- Which quorums a site may choose (R2.9): those from the least to the most. It is proved in proofs/Quorum.antt.
-- Assumes nothing.
use Rattle.std.specs.Prelude.{◌≡◌, ◌&&◌, ℕ, ◌+◌, ◌*◌, leb, ltb}
use Rattle.config.specs.Config.{least_quorum, most_quorum}

-- They are exactly the numbers with which two quorums share more than t nodes, and the correct nodes that a sending is sure to reach are one (R2.8).
abbrev pub RangeIsBothBounds : Type 0
RangeIsBothBounds = (n t d q : ℕ) → (leb (least_quorum n t) q && leb q (most_quorum n t d)) ≡ (ltb (n + t) (q + q) && leb (q + t + d) n)

-- There is one exactly where n is more than 3t + 2d.
abbrev pub RangeIsResilience : Type 0
RangeIsResilience = (n t d : ℕ) → leb (least_quorum n t) (most_quorum n t d) ≡ ltb (3 * t + 2 * d) n
