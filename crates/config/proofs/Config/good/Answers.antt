-- `Config::good` meets its contract: each early return breaks a bound of `Good`, and the last return has all six but the own number, which decides. That n is more than 3t + 2d is not tested:
-- it follows from the two bounds of the quorum. The sums are of 64 bits, so that none wraps.
-- Assumes nothing.
use mathlib.Core.Path.{sym}
use native.Mathlib.Omega.{arith}
use borrow.Author.Tests.{ltb-true, lt-ltb}
use Rattle.octets.proofs.ComputedTests.{agree-both}
use Rattle.config.proofs.Laws.{good-says, says-good, not_good}
use Rattle.config.proofs.Config.good.Goals as goal

pub returns-then-self-gt64 : goal.returns-then-self-gt64
returns-then-self-gt64 c = sym (not_good _ (λ g. omega arith))

pub returns-then-from : goal.returns-then-from
returns-then-from c = sym (not_good _ (λ g. omega arith))

pub returns-then-from-2 : goal.returns-then-from-2
returns-then-from-2 c = sym (not_good _ (λ g. omega arith))

pub returns : goal.returns
returns c =
    agree-both _ _
    (λ own. says-good c.args.self (record {
      some = let below = ltb-true _ _ own in omega (arith, below);
      most = omega arith;
      resilient = omega arith;
      known = ltb-true _ _ own;
      least-quorum = omega arith;
      most-quorum = omega arith;
    }))
    (λ all. lt-ltb _ _ (good-says c.args.self all).known)
