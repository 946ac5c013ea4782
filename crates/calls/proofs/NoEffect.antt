-- A refusal changes nothing, and 7 never comes with 64 nodes: the claims of specs/Refusals.antt, from the definitions of what each call leaves.
-- Assumes nothing.
use mathlib.Core.Path.{◌≡◌, refl, sym, ap, ◌∙◌}
use mathlib.Core.Bool.{true≢false}
use mathlib.Core.List.{List}
use Prim.Native.Nat.{ℕ}
use Rattle.std.specs.Prelude.{Result, Ok, Err}
use Rattle.refusal.specs.Outcome.{Outcome, refused, done, checked, ◌and_then◌}
use Rattle.refusal.specs.declared.Refusal.{Refusal}
use Rattle.refusal.proofs.Reasons.{refused-not-done, refused-asked}
use Rattle.config.specs.Config.{quorum}
use Rattle.bundle.specs.declared.Header.{Header}
use Rattle.bundle.specs.Bundle.{read, payload_part, slot_of}
use Rattle.bundle.proofs.Refusals.{never-seven-with-64}
use Rattle.protocol.specs.Update.{Record, update_reasons, update_result, update}
use Rattle.record.specs.Record.{decoded}
use Rattle.calls.specs.declared.Receipt.{Receipt}
use Rattle.calls.specs.Records.{record_at}
use Rattle.calls.specs.Open.{open_records}
use Rattle.calls.specs.Broadcast.{announcement_of, announcement_count}
use Rattle.calls.specs.Receive.{receive_reasons, receive, receipt_of, receipt_count}
use Rattle.calls.specs.Showing.{delivered_part, delivered_place}
use Rattle.calls.specs.Refusals.{RefusedOpenChangesNothing, RefusedBroadcastChangesNothing, RefusedReceiveChangesNothing, RefusedShowingGivesNothing, RefusalCountsNothing, ReceiveNeverSevenWith64}
use Rattle.calls.proofs.Refusals.{broadcast-no-effect, receive-no-effect}

pub refused-open-changes-nothing : RefusedOpenChangesNothing
unfolding open_records
refused-open-changes-nothing config records number e = rw e

pub refused-broadcast-changes-nothing : RefusedBroadcastChangesNothing
refused-broadcast-changes-nothing config payload records out number e =
    let (told, (kept, same)) = broadcast-no-effect config payload records out number e in
    (sym kept, sym same)

pub refused-receive-changes-nothing : RefusedReceiveChangesNothing
refused-receive-changes-nothing config bundle records out number e =
    let (told, (kept, same)) = receive-no-effect config bundle records out number e in
    (sym kept, sym same)

pub refused-showing-gives-nothing : RefusedShowingGivesNothing
unfolding delivered_part delivered_place
refused-showing-gives-nothing config slot records number e = (rw e, rw e)

-- an answer that is no refusal has no refusal's number
pub refusal-counts-nothing : RefusalCountsNothing
refusal-counts-nothing = (announced, received)
  where
    announced : (answer : Result ℕ Refusal) (number : ℕ) → announcement_of answer ≡ refused number → announcement_count answer ≡ 0
    announced (Ok seq) number e = absurd (refused-not-done number seq (sym e))
    announced (Err reason) number e = refl

    received : (answer : Result Receipt Refusal) (number : ℕ) → receipt_of answer ≡ refused number → receipt_count answer ≡ 0
    received (Ok receipt) number e = absurd (refused-not-done number _ (sym e))
    received (Err reason) number e = refl

-- after reading no reason of receiving has the number 7
pub receive-never-seven-with-64 : ReceiveNeverSevenWith64
unfolding receive receive_reasons update update_reasons
receive-never-seven-with-64 config bundle records out all known e = go (read config bundle) refl e
  where
    update-not : (own q signers : ℕ) (payload : List ℕ) (r : Record) → update own q signers payload r ≡ refused 7 → ⊥
    update-not own q signers payload r f =
        true≢false (sym (refused-asked (update_reasons own q signers payload r) (update_result own q signers payload r) 7 f))

    checked-not : (h : Header) → checked (receive_reasons config bundle records out h) ≡ refused 7 → ⊥
    checked-not h f = true≢false (sym (refused-asked (receive_reasons config bundle records out h) tt 7 f))

    after_read : (h : Header) (o : Outcome Unit) → checked (receive_reasons config bundle records out h) ≡ o
        → (o and_then λ _. update config.own (quorum config) h.signers (payload_part config bundle) (decoded (record_at config (slot_of h) records))) ≡ refused 7 → ⊥
    after_read h (refused number) c f = let same : number ≡ 7 = cc in checked-not h (c ∙ ap refused same)
    after_read h (done first) c f =
        update-not config.own (quorum config) h.signers (payload_part config bundle) (decoded (record_at config (slot_of h) records)) f

    go : (b : Outcome Header) → read config bundle ≡ b
        → (b and_then λ h. checked (receive_reasons config bundle records out h) and_then λ _.
        update config.own (quorum config) h.signers (payload_part config bundle) (decoded (record_at config (slot_of h) records))) ≡ refused 7 → ⊥
    go (refused number) r f = let same : number ≡ 7 = cc in (never-seven-with-64 config all).0 bundle known (r ∙ ap refused same)
    go (done h) r f = after_read h (checked (receive_reasons config bundle records out h)) refl f
