-- Neither theorem of the round trip is empty: the bundle of the second step of the first run (R16.5) is written at node 0, read at node 1
-- and written there again.
-- Assumes nothing.
use mathlib.Core.Path.{◌≡◌, refl}
use mathlib.Core.Bool.{true}
use mathlib.Core.List.{List, [], ◌∷◌}
use Prim.Native.Nat.{ℕ, ◌<◌, ◌^◌}
use lib.Dec.{lit<}
use lib.ListN.{replicate}
use Rattle.signers.specs.Signers.{member, within}
use Rattle.refusal.specs.Outcome.{done, unless}
use Rattle.config.specs.declared.Config.{Config}
use Rattle.config.specs.Config.{config_for, with_own, good, slot_of_day}
use Rattle.bundle.specs.declared.Header.{Header}
use Rattle.bundle.specs.Bundle.{bundle_size, bundle_of, header_reasons, read, payload_part, header_of_day, write_reasons, write}
use Rattle.bundle.specs.RoundTrip.{Peers}
use Rattle.octets.specs.Octets.{bytes_of}
use Rattle.octets.proofs.Numbers.{bytes-test}
use Rattle.bundle.proofs.RoundTrip.{written-reads-back, accepted-writes-back}

abbrev pub play : (own : ℕ) → Config
play own = with_own (config_for 4 1 0 7) own

abbrev pub header : Header
header = header_of_day (play 0) 0 0 1

abbrev pub payload : List ℕ
payload = 0 ∷ 1 ∷ 2 ∷ 3 ∷ 4 ∷ 5 ∷ 6 ∷ 7 ∷ 8 ∷ 9 ∷ 10 ∷ 11 ∷ 12 ∷ 13 ∷ 14 ∷ 15 ∷ []

abbrev pub bytes : List ℕ
bytes = 0 ∷ 0 ∷ 0 ∷ 7 ∷ 0 ∷ 0 ∷ 0 ∷ 0 ∷ 0 ∷ 0 ∷ 0 ∷ 0 ∷ 0 ∷ 0 ∷ 0 ∷ 1 ∷ payload

abbrev out : List ℕ
out = replicate bundle_size 0

pub written : write (play 0) 0 0 1 payload out ≡ done bytes
unfolding write write_reasons header_reasons bundle_of bytes_of unless good within member config_for with_own slot_of_day
written = refl

peers : (a b : ℕ) → good (play b) ≡ true → Peers (play a) (play b)
unfolding with_own config_for
peers a b g = record { configured = g; nodes = refl; today = refl }

one-good : good (play 1) ≡ true
unfolding good with_own config_for
one-good = refl

day-fits : (play 0).day < 2 ^ 32
unfolding with_own config_for
day-fits = lit< tt

pub read_back : (read (play 1) bytes ≡ done header) × (payload_part (play 1) bytes ≡ payload)
read_back = written-reads-back (play 0) (play 1) 0 0 1 payload out bytes (peers 0 1 one-good) day-fits written

pub written_again : write (play 1) 0 0 1 (payload_part (play 1) bytes) out ≡ done bytes
unfolding slot_of_day
written_again = accepted-writes-back (play 1) (play 1) header bytes out (peers 1 1 one-good) (bytes-test bytes refl) refl read_back.0
