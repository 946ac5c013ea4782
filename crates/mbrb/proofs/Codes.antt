-- Laws of the codes: the count has no part in the code of an answer, each call gives codes of its list and no others, a
-- refusal's code means that nothing changed, and 0 that the day is open.
-- Assumes nothing.
use mathlib.Core.Path.{◌≡◌, refl, sym, ap, ◌∙◌}
use mathlib.Core.Bool.{Bool, true, false, cond, ◌&&◌, and-eq-true_iff, true≢false}
use mathlib.Core.List.{List}
use Prim.Native.Nat.{ℕ, zero, suc, ◌+◌, ◌≤◌, ◌<◌}
use native.Mathlib.Omega.{arith}
use lib.Dec.{ltb}
use lib.ListN.{length, replicate}
use borrow.Author.Tests.{ltb-true}
use Rattle.octets.specs.Octets.{blank}
use Rattle.refusal.specs.Outcome.{Outcome, refused, done, plain, after, checked, ◌and_then◌}
use Rattle.refusal.proofs.Reasons.{done-clear, Comes, unless-comes, then-comes}
use Rattle.config.specs.declared.Config.{Config}
use Rattle.config.specs.Config.{quorum, slots}
use Rattle.bundle.specs.Bundle.{header_in, header_reasons, read_reasons, read, payload_part, slot_of}
use Rattle.protocol.specs.Update.{Record, Answer, announced, kept, signed, delivered, noted, Update, update_reasons, update_result, update}
use Rattle.protocol.proofs.UpdateCases.{result-answer}
use Rattle.record.specs.Record.{decoded, well_formed}
use Rattle.calls.specs.Records.{record_at, own_slot}
use Rattle.calls.specs.Open.{open_reasons, opened, open_records}
use Rattle.calls.specs.Broadcast.{search, broadcast_reasons, broadcast, broadcast_records, broadcast_out}
use Rattle.calls.specs.Receive.{receive_reasons, receive, receive_records, receive_out, reported}
use Rattle.calls.proofs.NoEffect.{refused-open-changes-nothing, refused-broadcast-changes-nothing, refused-receive-changes-nothing}
use Rattle.mbrb.specs.Code.{opened_code, announced_code, answer_code, received_code, reported_code, open_codes, broadcast_codes, receive_codes, listed, OpenListed, BroadcastListed, ReceiveListed, RefusalCode, RefusalsBelow100, RefusalCodeChangesNothing, OpenedMakesZero}

-- the count has no part in the code: what is reported has that of what is received
pub reported_received : (outcome : Outcome Update) → reported_code (outcome and_then λ result. done (reported result)) ≡ received_code outcome
unfolding reported
reported_received (refused number) = refl
reported_received (done result) = refl

-- ---- opening

-- the records afterwards have no part in the code
without-records : {A : Type 0} (outcome : Outcome A) → opened_code (plain outcome) ≡ opened_code outcome
without-records (refused number) = refl
without-records (done zeros) = refl

pub plain-opened : (config : Config) (records : List ℕ) → opened_code (plain (opened config records)) ≡ opened_code (opened config records)
plain-opened config records = without-records (opened config records)

opened-listed : {A : Type 0} (outcome : Outcome A) → Comes (listed open_codes) (λ _. Unit) outcome → listed open_codes (opened_code outcome) ≡ true
unfolding listed open_codes
opened-listed (refused number) h = h
opened-listed (done zeros) h = refl

pub open-listed : OpenListed
unfolding opened open_reasons listed open_codes
open-listed config records =
    opened-listed (opened config records)
    (unless-comes (listed open_codes) (λ _. Unit) (open_reasons config records) (replicate (length records) 0) refl tt)

-- ---- announcing

-- a test of the first numbers, computed, and what it says of each
abbrev first : ℕ → (ℕ → Bool) → Bool
first zero test = true
first (suc n) test = test zero && first n (λ k. test (suc k))

first_says : (n : ℕ) (test : ℕ → Bool) → first n test ≡ true → (k : ℕ) → k < n → test k ≡ true
first_says zero test e k h = absurd (omega arith)
first_says (suc n) test e zero h = ((and-eq-true_iff (test zero) (first n (λ k. test (suc k)))).0 e).0
first_says (suc n) test e (suc k) h =
    first_says n (λ i. test (suc i)) ((and-eq-true_iff (test zero) (first n (λ i. test (suc i)))).0 e).1 k (omega arith)

-- the code of a number that announcing gives
abbrev Announces : ℕ → Type 0
Announces seq = listed broadcast_codes (200 + seq) ≡ true

number-listed : (seq : ℕ) → seq < slots → Announces seq
unfolding listed broadcast_codes
number-listed = first_says slots (λ k. listed broadcast_codes (200 + k)) refl

-- the search refuses by 25 or 21, or gives one of the sixteen numbers
search-listed : (config : Config) (records : List ℕ) (seq left : ℕ) → seq + left ≤ slots → Comes (listed broadcast_codes) Announces (search config records seq left)
unfolding search listed broadcast_codes
search-listed config records seq zero h = refl
search-listed config records seq (suc left) h =
    go (blank (record_at config (own_slot config seq) records)) (well_formed config config.own (record_at config (own_slot config seq) records)) (search-listed config records (suc seq) left (omega arith))
  where
    go : (b f : Bool) → Comes (listed broadcast_codes) Announces (search config records (suc seq) left)
        → Comes (listed broadcast_codes) Announces (cond b (done seq) (cond f (search config records (suc seq) left) (refused 21)))
    go true f below = number-listed seq (omega arith)
    go false true below = below
    go false false below = refl

announced-listed : (outcome : Outcome ℕ) → Comes (listed broadcast_codes) Announces outcome → listed broadcast_codes (announced_code outcome) ≡ true
announced-listed (refused number) h = h
announced-listed (done seq) h = h

pub broadcast-listed : BroadcastListed
unfolding broadcast broadcast_reasons listed broadcast_codes
broadcast-listed config payload records out =
    announced-listed (broadcast config payload records out)
    (then-comes (listed broadcast_codes) Announces (checked (broadcast_reasons config payload records out)) (λ _. search config records 0 slots)
    (unless-comes (listed broadcast_codes) (λ _. Unit) (broadcast_reasons config payload records out) tt refl tt)
    (λ _. search-listed config records 0 slots (omega arith)))

-- ---- taking

-- the code of an update that taking gives
abbrev Answers : Update → Type 0
Answers result = listed receive_codes (answer_code result.answer) ≡ true

-- taking never answers announced
update_result-listed : (own q signers : ℕ) (payload : List ℕ) (r : Record) → Answers (update_result own q signers payload r)
unfolding listed receive_codes
update_result-listed = result-answer (λ answer. listed receive_codes (answer_code answer) ≡ true) refl refl refl refl

update-listed : (own q signers : ℕ) (payload : List ℕ) (r : Record) → Comes (listed receive_codes) Answers (update own q signers payload r)
unfolding update update_reasons listed receive_codes
update-listed own q signers payload r =
    unless-comes (listed receive_codes) Answers (update_reasons own q signers payload r) (update_result own q signers payload r) refl
    (update_result-listed own q signers payload r)

received-listed : (outcome : Outcome Update) → Comes (listed receive_codes) Answers outcome → listed receive_codes (received_code outcome) ≡ true
received-listed (refused number) h = h
received-listed (done result) h = h

read-listed : (config : Config) (bundle : List ℕ) → Comes (listed receive_codes) (λ _. Unit) (read config bundle)
unfolding read read_reasons header_reasons listed receive_codes
read-listed config bundle = unless-comes (listed receive_codes) (λ _. Unit) (read_reasons config bundle) (header_in bundle) refl tt

pub receive-listed : ReceiveListed
unfolding receive receive_reasons listed receive_codes
receive-listed config bundle records out =
    received-listed (receive config bundle records out)
    (then-comes (listed receive_codes) Answers (read config bundle) _ (read-listed config bundle)
    (λ h. then-comes (listed receive_codes) Answers (checked (receive_reasons config bundle records out h)) _
    (unless-comes (listed receive_codes) (λ _. Unit) (receive_reasons config bundle records out h) tt refl tt)
    (λ _. update-listed config.own (quorum config) h.signers (payload_part config bundle) (decoded (record_at config (slot_of h) records)))))

-- ---- refusals

-- a refusal's number passes the test
refusal-says : {A : Type 0} (test : ℕ → Bool) (claim : A → Type 0) (outcome : Outcome A) (number : ℕ) → Comes test claim outcome → outcome ≡ refused number → test number ≡ true
refusal-says test claim outcome number h e = rw e at h

-- the numbers from 1 to 99
refusing : ℕ → Bool
refusing k = ltb 0 k && ltb k 100

refusing-says : (k : ℕ) → refusing k ≡ true → RefusalCode k
unfolding refusing
refusing-says k e =
    let (some, few) = (and-eq-true_iff (ltb 0 k) (ltb k 100)).0 e in
    (ltb-true 0 k some, ltb-true k 100 few)

open-refusing : (config : Config) (records : List ℕ) → Comes refusing (λ _. Unit) (opened config records)
unfolding opened open_reasons refusing
open-refusing config records = unless-comes refusing (λ _. Unit) (open_reasons config records) (replicate (length records) 0) refl tt

search-refusing : (config : Config) (records : List ℕ) (seq left : ℕ) → Comes refusing (λ _. Unit) (search config records seq left)
unfolding search refusing
search-refusing config records seq zero = refl
search-refusing config records seq (suc left) =
    go (blank (record_at config (own_slot config seq) records)) (well_formed config config.own (record_at config (own_slot config seq) records)) (search-refusing config records (suc seq) left)
  where
    go : (b f : Bool) → Comes refusing (λ _. Unit) (search config records (suc seq) left)
        → Comes refusing (λ _. Unit) (cond b (done seq) (cond f (search config records (suc seq) left) (refused 21)))
    go true f below = tt
    go false true below = below
    go false false below = refl

broadcast-refusing : (config : Config) (payload records out : List ℕ) → Comes refusing (λ _. Unit) (broadcast config payload records out)
unfolding broadcast broadcast_reasons refusing
broadcast-refusing config payload records out =
    then-comes refusing (λ _. Unit) (checked (broadcast_reasons config payload records out)) (λ _. search config records 0 slots)
    (unless-comes refusing (λ _. Unit) (broadcast_reasons config payload records out) tt refl tt)
    (λ _. search-refusing config records 0 slots)

receive-refusing : (config : Config) (bundle records out : List ℕ) → Comes refusing (λ _. Unit) (receive config bundle records out)
unfolding receive receive_reasons read read_reasons header_reasons update update_reasons refusing
receive-refusing config bundle records out =
    then-comes refusing (λ _. Unit) (read config bundle) _ (unless-comes refusing (λ _. Unit) (read_reasons config bundle) (header_in bundle) refl tt)
    (λ h. then-comes refusing (λ _. Unit) (checked (receive_reasons config bundle records out h)) _
    (unless-comes refusing (λ _. Unit) (receive_reasons config bundle records out h) tt refl tt)
    (λ _. unless-comes refusing (λ _. Unit)
    (update_reasons config.own (quorum config) h.signers (payload_part config bundle) (decoded (record_at config (slot_of h) records)))
    (update_result config.own (quorum config) h.signers (payload_part config bundle) (decoded (record_at config (slot_of h) records))) refl tt))

pub refusals-below-100 : RefusalsBelow100
refusals-below-100 config records out = (
  λ number e. refusing-says number (refusal-says refusing (λ _. Unit) (opened config records) number (open-refusing config records) e),
  λ payload number e. refusing-says number (refusal-says refusing (λ _. Unit) (broadcast config payload records out) number (broadcast-refusing config payload records out) e),
  λ bundle number e. refusing-says number (refusal-says refusing (λ _. Unit) (receive config bundle records out) number (receive-refusing config bundle records out) e),
)

pub refusal-code-changes-nothing : RefusalCodeChangesNothing
unfolding listed receive_codes
refusal-code-changes-nothing config records out = (
  λ code. after_open (opened config records) refl code,
  λ payload code. after-broadcast payload (broadcast config payload records out) refl code,
  λ bundle code. after-receive bundle (receive config bundle records out) refl (receive-listed config bundle records out) code,
)
  where
    after_open : (o : Outcome (List ℕ)) → opened config records ≡ o → RefusalCode (opened_code o)
        → (opened config records ≡ refused (opened_code (opened config records))) × (open_records config records ≡ records)
    after_open (refused number) e code =
        (e ∙ ap (λ (x : Outcome (List ℕ)). refused (opened_code x)) (sym e), refused-open-changes-nothing config records number e)
    after_open (done zeros) e code = absurd (omega (arith, code.0))

    after-broadcast : (payload : List ℕ) (o : Outcome ℕ) → broadcast config payload records out ≡ o → RefusalCode (announced_code o)
        → (broadcast config payload records out ≡ refused (announced_code (broadcast config payload records out)))
        × (broadcast_records config payload records out ≡ records)
        × (broadcast_out config payload records out ≡ out)
    after-broadcast payload (refused number) e code =
        let (left, same) = refused-broadcast-changes-nothing config payload records out number e in
        (e ∙ ap (λ (x : Outcome ℕ). refused (announced_code x)) (sym e), left, same)
    after-broadcast payload (done seq) e code = absurd (omega (arith, code.1))

    answered : (answer : Answer) → listed receive_codes (answer_code answer) ≡ true → answer_code answer < 100 → ⊥
    answered announced fine few = true≢false (sym fine)
    answered kept fine few = omega arith
    answered signed fine few = omega arith
    answered delivered fine few = omega arith
    answered noted fine few = omega arith

    after-receive : (bundle : List ℕ) (o : Outcome Update) → receive config bundle records out ≡ o → listed receive_codes (received_code (receive config bundle records out)) ≡ true
        → RefusalCode (received_code o)
        → (receive config bundle records out ≡ refused (received_code (receive config bundle records out)))
        × (receive_records config bundle records out ≡ records)
        × (receive_out config bundle records out ≡ out)
    after-receive bundle (refused number) e fine code =
        let (left, same) = refused-receive-changes-nothing config bundle records out number e in
        (e ∙ ap (λ (x : Outcome Update). refused (received_code x)) (sym e), left, same)
    after-receive bundle (done result) e fine code = absurd (answered result.answer (rw e at fine) code.1)

-- a refusal has no code 0, so that the work was done
pub opened-makes-zero : OpenedMakesZero
unfolding opened open_records
opened-makes-zero config records e = go (opened config records) refl e
  where
    go : (o : Outcome (List ℕ)) → opened config records ≡ o → opened_code o ≡ 0
        → (opened config records ≡ done (replicate (length records) 0)) × (open_records config records ≡ replicate (length records) 0)
    go (refused number) f e = let code = (refusals-below-100 config records records).0 number f in absurd (omega (arith, code.0))
    go (done zeros) f e =
        let work = (done-clear (open_reasons config records) (replicate (length records) 0) zeros f).1 in
        (f ∙ ap done (sym work), ap (λ (x : Outcome (List ℕ)). after x (λ zeros. zeros) records) f ∙ sym work)
