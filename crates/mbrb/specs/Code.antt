-- The C interface: functions over numbers and byte slices, each with one code as its result (R11.1). Which code each answer has (R11.2), which codes a host
-- can see (R11.3), and what a refusal's code means (R11.4). A preview has taking's codes. The laws are proved in proofs/Codes.antt.
-- Assumes nothing.
use Rattle.std.specs.Prelude.{◌≡◌, Bool, true, false, ◌||◌, List, [], ◌∷◌, ℕ, ◌+◌, ◌<◌, eqb, length, replicate}
use Rattle.refusal.specs.Outcome.{Outcome, refused, done}
use Rattle.config.specs.declared.Config.{Config}
use Rattle.protocol.specs.Update.{Answer, announced, kept, signed, delivered, noted, Update}
use Rattle.calls.specs.Open.{opened, open_records}
use Rattle.calls.specs.Broadcast.{broadcast, broadcast_records, broadcast_out}
use Rattle.calls.specs.Receive.{receive, receive_records, receive_out}

-- R11.2: a refusal's code is its number, whichever call it is of. Opening that is done has the code 0;
abbrev pub opened_code : {A : Type 0} → Outcome A → ℕ
opened_code (refused number) = number
opened_code (done zeros) = 0

-- an announcement has 200 and its number on top;
abbrev pub announced_code : Outcome ℕ → ℕ
announced_code (refused number) = number
announced_code (done seq) = 200 + seq

-- and taking has 100 for kept, 101 for signed, 102 for delivered and 103 for noted. Taking never answers announced; the number given there is no code.
abbrev pub answer_code : Answer → ℕ
answer_code announced = 0
answer_code kept = 100
answer_code signed = 101
answer_code delivered = 102
answer_code noted = 103

abbrev pub received_code : Outcome Update → ℕ
received_code (refused number) = number
received_code (done result) = answer_code result.answer

-- the same of an answer with its count, which has no part in the code
abbrev pub reported_code : Outcome (Answer × ℕ) → ℕ
reported_code (refused number) = number
reported_code (done told) = answer_code told.0

-- R11.3: the codes that a host can see. Of opening: 0, and its two refusals,
unfoldable pub open_codes : List ℕ
open_codes = 0 ∷ 1 ∷ 20 ∷ []

-- of announcing: its six refusals, and 200 to 215 for the sixteen numbers,
unfoldable pub broadcast_codes : List ℕ
broadcast_codes =
    1 ∷ 9 ∷ 10 ∷ 20 ∷ 21 ∷ 25
    ∷ 200 ∷ 201 ∷ 202 ∷ 203 ∷ 204 ∷ 205 ∷ 206 ∷ 207 ∷ 208 ∷ 209 ∷ 210 ∷ 211 ∷ 212 ∷ 213 ∷ 214 ∷ 215
    ∷ []

-- of taking: its fourteen refusals, and 100 to 103 for the four answers.
unfoldable pub receive_codes : List ℕ
receive_codes =
    1 ∷ 2 ∷ 3 ∷ 4 ∷ 5 ∷ 6 ∷ 7 ∷ 8 ∷ 10
    ∷ 20 ∷ 21 ∷ 22 ∷ 23 ∷ 24
    ∷ 100 ∷ 101 ∷ 102 ∷ 103
    ∷ []

-- the code is one of the list
unfoldable pub listed : List ℕ → ℕ → Bool
listed [] code = false
listed (first ∷ rest) code = eqb first code || listed rest code

-- a call gives a code of its list and no other, with any table and any lists
abbrev pub OpenListed : Type 0
OpenListed = (config : Config) (records : List ℕ) → listed open_codes (opened_code (opened config records)) ≡ true

abbrev pub BroadcastListed : Type 0
BroadcastListed = (config : Config) (payload records out : List ℕ) → listed broadcast_codes (announced_code (broadcast config payload records out)) ≡ true

abbrev pub ReceiveListed : Type 0
ReceiveListed = (config : Config) (bundle records out : List ℕ) → listed receive_codes (received_code (receive config bundle records out)) ≡ true

-- R11.4: the codes from 1 to 99
abbrev pub RefusalCode : ℕ → Type 0
RefusalCode code = (0 < code) × (code < 100)

-- are those of refusals: a refusal of any call has such a code,
abbrev pub RefusalsBelow100 : Type 0
RefusalsBelow100 =
    (config : Config) (records out : List ℕ)
    → ((number : ℕ) → opened config records ≡ refused number → RefusalCode number)
    × ((payload : List ℕ) (number : ℕ) → broadcast config payload records out ≡ refused number → RefusalCode number)
    × ((bundle : List ℕ) (number : ℕ) → receive config bundle records out ≡ refused number → RefusalCode number)

-- and after such a code the call was refused, and every byte that it could have changed is as it was.
abbrev pub RefusalCodeChangesNothing : Type 0
RefusalCodeChangesNothing =
    (config : Config) (records out : List ℕ)
    → (RefusalCode (opened_code (opened config records))
    → (opened config records ≡ refused (opened_code (opened config records)))
    × (open_records config records ≡ records))
    × ((payload : List ℕ) → RefusalCode (announced_code (broadcast config payload records out))
    → (broadcast config payload records out ≡ refused (announced_code (broadcast config payload records out)))
    × (broadcast_records config payload records out ≡ records)
    × (broadcast_out config payload records out ≡ out))
    × ((bundle : List ℕ) → RefusalCode (received_code (receive config bundle records out))
    → (receive config bundle records out ≡ refused (received_code (receive config bundle records out)))
    × (receive_records config bundle records out ≡ records)
    × (receive_out config bundle records out ≡ out))

-- The code 0 is no refusal's: after it the day is open, which is that every byte of the records is zero.
abbrev pub OpenedMakesZero : Type 0
OpenedMakesZero =
    (config : Config) (records : List ℕ) → opened_code (opened config records) ≡ 0
    → (opened config records ≡ done (replicate (length records) 0)) × (open_records config records ≡ replicate (length records) 0)
