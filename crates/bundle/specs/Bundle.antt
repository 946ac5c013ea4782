-- The bytes of a bundle (R3.1), and what reading and writing one give and refuse (RULES section 10). The formats' number is `seq` here, and their body
-- is `payload`.
-- Assumes nothing.
use Rattle.std.specs.Prelude.{cond, not, ◌&&◌, List, [], ◌∷◌, ◌++◌, ℕ, ltb, eqb, length, get_or, replicate, Result}
use Rattle.octets.specs.Octets.{number, bytes_of, part}
use Rattle.signers.specs.Signers.{member, within}
use Rattle.refusal.specs.Refusal.{outcome_of}
use Rattle.refusal.specs.declared.Refusal.{Refusal}
use Rattle.refusal.specs.Outcome.{Outcome, Reason, ◌if◌, unless, after}
use Rattle.payload.specs.Payload.{payload_size}
use Rattle.config.specs.declared.Config.{Config}
use Rattle.config.specs.declared.Slot.{Slot}
use Rattle.config.specs.Config.{good, slots, slot_of_day}
use Rattle.bundle.specs.declared.Header.{Header}

-- the slot of a header, and the header of a slot
abbrev pub slot_of : Header → Slot
slot_of h = record { day = h.day; sender = h.sender; seq = h.seq }

abbrev pub header_of : Slot → (signers : ℕ) → Header
header_of slot signers = record { day = slot.day; sender = slot.sender; seq = slot.seq; signers = signers }

-- R3.1: how many bytes a bundle has
abbrev pub bundle_size : ℕ
bundle_size = 32

-- the payload is at the end
abbrev pub payload_start : ℕ
payload_start = 16

-- R3.1: the day in four bytes, sender and number in one each, two zero bytes, the signers in eight, and the payload
unfoldable pub bundle_of : Header → (payload : List ℕ) → List ℕ
bundle_of h payload = bytes_of 4 h.day ++ (h.sender ∷ h.seq ∷ 0 ∷ 0 ∷ (bytes_of 8 h.signers ++ payload))

-- the fields in a bundle's bytes
unfoldable pub slot_in : (bundle : List ℕ) → Slot
slot_in bundle = record { day = number (part 0 4 bundle); sender = get_or bundle 4 0; seq = get_or bundle 5 0 }

unfoldable pub header_in : (bundle : List ℕ) → Header
header_in bundle = header_of (slot_in bundle) (number (part 8 8 bundle))

abbrev pub payload_in : (bundle : List ℕ) → List ℕ
payload_in bundle = part payload_start payload_size bundle

-- R5.4, of a header: sender and number out of range, a signer that is no node, and a sender that has not signed
unfoldable pub header_reasons : Config → Header → List Reason
header_reasons config h =
    (5 if not (ltb h.sender config.n))
    ∷ (6 if not (ltb h.seq slots))
    ∷ (7 if not (within h.signers config.n))
    ∷ (8 if not (member h.signers h.sender))
    ∷ []

-- R10.1: what reading tests, in this order: configuration, length, reserved bytes, day, and then the header
unfoldable pub read_reasons : Config → List ℕ → List Reason
read_reasons config bundle =
    (1 if not (good config))
    ∷ (2 if not (eqb (length bundle) bundle_size))
    ∷ (3 if not (eqb (get_or bundle 6 0) 0 && eqb (get_or bundle 7 0) 0))
    ∷ (4 if not (eqb (slot_in bundle).day config.day))
    ∷ header_reasons config (header_in bundle)

-- R10.1: reading gives the header,
unfoldable pub read : Config → List ℕ → Outcome Header
read config bundle = unless (read_reasons config bundle) (header_in bundle)

-- and the payload as a part of the bundle, which is empty where reading refuses
unfoldable pub payload_part : Config → (bundle : List ℕ) → List ℕ
payload_part config bundle = after (read config bundle) (λ h. payload_in bundle) []

-- the empty part is the one at the bundle's start
abbrev pub empty_start : ℕ
empty_start = 0

-- where in the bundle the part starts
unfoldable pub payload_place : Config → (bundle : List ℕ) → ℕ
payload_place config bundle = after (read config bundle) (λ h. payload_start) empty_start

-- the payload's bytes as a value is loaded from them; of a slice that has not a bundle's length, zeros
unfoldable pub payload_loaded : (bundle : List ℕ) → List ℕ
payload_loaded bundle = cond (eqb (length bundle) bundle_size) (payload_in bundle) (replicate payload_size 0)

-- the header of a bundle of the configuration's day
abbrev pub header_of_day : Config → (sender seq signers : ℕ) → Header
header_of_day config sender seq signers = header_of (slot_of_day config sender seq) signers

module _ (config : Config) (sender seq signers : ℕ) (payload out : List ℕ) where
  -- R10.2: what writing tests, in this order: configuration, header, and the two lengths
  unfoldable pub write_reasons : List Reason
  write_reasons =
      (1 if not (good config))
      ∷ (header_reasons config (header_of_day config sender seq signers)
      ++ ((9 if not (eqb (length payload) payload_size))
      ∷ (10 if not (eqb (length out) bundle_size))
      ∷ []))

  -- R10.2: writing gives the bytes of a bundle of the configuration's day, which go over `out`
  unfoldable pub write : Outcome (List ℕ)
  write = unless write_reasons (bundle_of (header_of_day config sender seq signers) payload)

  -- the outgoing bytes afterwards; a refusal leaves them (R5.1)
  abbrev pub write_out : List ℕ
  write_out = after write (λ bytes. bytes) out

-- what a buffer holds after a bundle is written over it, if it has a bundle's length
unfoldable pub encoded : Header → (payload out : List ℕ) → List ℕ
encoded h payload out = cond (eqb (length out) bundle_size) (bundle_of h payload) out

-- the number and values of each case of a reading (R17.3)
abbrev pub reading_of : Result Header Refusal → Outcome Header
reading_of reading = outcome_of (λ h. h) reading
