-- What specs/Refusals.antt claims: a refusal leaves what was there, and a word of 64 bits has no bit out of range with 64 nodes.
-- Assumes nothing.
use mathlib.Core.Path.{◌≡◌, sym, ◌∙◌}
use mathlib.Core.Bool.{true, true≢false}
use mathlib.Core.List.{List}
use Prim.Native.Nat.{ℕ, ◌^◌, ◌<◌, ◌≤◌}
use native.Mathlib.Nat.{lt_of_lt_of_le, pow-le-pow_right}
use native.Mathlib.Omega.{arith}
use lib.Dec.{lit<}
use lib.ListN.{length, drop, length-take}
use Rattle.octets.specs.Octets.{Bytes, number, part}
use Rattle.octets.proofs.Numbers.{bytes-part, number_lt}
use Rattle.signers.specs.Signers.{within}
use Rattle.signers.proofs.Members.{lt-within}
use Rattle.refusal.specs.Outcome.{refused}
use Rattle.refusal.proofs.Reasons.{refused-asked}
use Rattle.config.specs.declared.Config.{Config}
use Rattle.bundle.specs.Bundle.{header_in, header_reasons, read_reasons, read, header_of_day, bundle_of, write_reasons, write}
use Rattle.bundle.specs.Refusals.{RefusedWriteChangesNothing, RefusedReadGivesNothing, NeverSevenWith64}
use Rattle.bundle.proofs.Accepted.{refused-payload}

pub refused-write-changes-nothing : RefusedWriteChangesNothing
refused-write-changes-nothing config sender seq signers payload out number e = rw e

pub refused-read-gives-nothing : RefusedReadGivesNothing
refused-read-gives-nothing = refused-payload

-- 7 is asked of the signers' word
read-seven : (config : Config) (bundle : List ℕ) → read config bundle ≡ refused 7 → within (header_in bundle).signers config.n ≡ true → ⊥
unfolding read read_reasons header_reasons
read-seven config bundle e fine = true≢false (sym (refused-asked (read_reasons config bundle) (header_in bundle) 7 e) ∙ rw fine)

write-seven : (config : Config) (sender seq signers : ℕ) (payload out : List ℕ) → write config sender seq signers payload out ≡ refused 7
    → within signers config.n ≡ true → ⊥
unfolding write write_reasons header_reasons
write-seven config sender seq signers payload out e fine =
    true≢false (sym (refused-asked (write_reasons config sender seq signers payload out) (bundle_of (header_of_day config sender seq signers) payload) 7 e) ∙ rw fine)

-- eight bytes, or fewer, are a number of 64 bits
word_fits : (bundle : List ℕ) → Bytes bundle → (header_in bundle).signers < 2 ^ 64
unfolding header_in
word_fits bundle known =
    let few : length (part 8 8 bundle) ≤ 8 = omega (arith, length-take 8 (drop 8 bundle)) in
    lt_of_lt_of_le (number_lt (part 8 8 bundle) (bytes-part 8 8 bundle known)) (pow-le-pow_right (lit< tt) few)

pub never-seven-with-64 : NeverSevenWith64
never-seven-with-64 config all = (
  λ bundle known e. read-seven config bundle e (lt-within _ _ (rw all (word_fits bundle known))),
  λ sender seq signers payload out fits e. write-seven config sender seq signers payload out e (lt-within _ _ (rw all fits)),
)
