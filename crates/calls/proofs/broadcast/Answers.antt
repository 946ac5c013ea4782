-- `broadcast` meets its contract: each refusal follows from the tests passed before it, and the record and the bundle are the announcement's.
-- Assumes nothing.
use mathlib.Core.Path.{◌≡◌, refl, sym, ap, ap₂, ◌∙◌}
use mathlib.Core.Bool.{true}
use mathlib.Core.List.{List}
use Prim.Native.Nat.{ℕ, ◌+◌, ◌≤◌}
use lib.ListN.{length}
use Rattle.refusal.specs.Outcome.{refused, done}
use Rattle.refusal.specs.Refusal.{number_of}
use Rattle.refusal.proofs.Passed.{passed-on}
use Rattle.config.specs.declared.Config.{Config}
use Rattle.config.specs.declared.Slot.{Slot}
use Rattle.config.specs.Config.{good, quorum, slots, slot_of_day, in_range, slot_place, place, record_size}
use Rattle.config.proofs.Laws.{good-says, place-slot}
use Rattle.bundle.specs.Bundle.{bundle_of, header_of}
use Rattle.bundle.proofs.Fields.{payload-loaded}
use Rattle.protocol.specs.Update.{Nothing, Held, announced_by}
use Rattle.protocol.proofs.WellFormed.{WellFormed, announced-well-formed}
use Rattle.record.specs.Record.{bytes, encoding, signers_field, payload_field}
use Rattle.record.proofs.Encoding.{encoding-fields}
use Rattle.calls.specs.Records.{own_slot, replaced, stored}
use Rattle.calls.specs.Broadcast.{search as search_of, broadcast, announced_header}
use Rattle.calls.specs.Inner.{sent}
use Rattle.calls.proofs.Days.{Made, day-made, day-length}
use Rattle.calls.proofs.Records.{place-fits}
use Rattle.calls.proofs.Refusals.{broadcast-no-effect, broadcast-effect, broadcast-bad, broadcast-payload, broadcast-out, broadcast-size, broadcast-searched}
use Rattle.calls.proofs.LowestFree.{broadcast-done}
use Rattle.calls.proofs.broadcast.Goals as goal
use Rattle.calls.proofs.broadcast.Goals.{After-from_residual, After-from_residual-in_err-seq, After-held-record, After-place-start, Else-not-good, In_ok-day, In_ok-seq}

good-known : (c : Else-not-good) → good c.args.config ≡ true
good-known c = sym c.good.ensures ∙ c.if-not-good.false

-- ---- once the day is made
module _ (c : In_ok-day) where
  abbrev config : Config
  config = c.args.config

  abbrev payload : List ℕ
  payload = c.args.payload.now

  abbrev records : List ℕ
  records = c.args.records.now

  abbrev out : List ℕ
  out = c.args.out.now

  made : Made config records (c.in_ok-day.day.config, c.in_ok-day.day.records.now)
  made = day-made _ _ _ c.in_ok-day.ensures

  -- the search decides
  searched : search_of c.in_ok-day.day.config c.in_ok-day.day.records.now 0 slots ≡ broadcast config payload records out
  searched =
      ap₂ (λ (g : Config) (xs : List ℕ). search_of g xs 0 slots) made.config_is made.records_is
      ∙ sym (broadcast-searched _ _ _ _ made.config_good c.if-payload-ne-SIZE.false c.if-out-ne-SIZE.false made.records_whole)

-- ---- and where it has found a number
module _ (c : In_ok-seq) where
  abbrev at : In_ok-day
  at = (goal.at.In_ok-seq c).In_ok-day

  abbrev seq : ℕ
  seq = c.in_ok-seq.seq

  abbrev slot : Slot
  slot = own_slot (config at) seq

  announced : broadcast (config at) (payload at) (records at) (out at) ≡ done seq
  announced = sym (c.in_ok-seq.ensures ∙ searched at)

  range-known : in_range (config at) slot ≡ true
  range-known = (broadcast-done _ _ _ _ _ announced).range

  fits : place (config at) slot + record_size ≤ length (records at)
  fits = place-fits (config at) (made at).config_good (records at) (made at).records_whole slot range-known

-- ---- what is stored and sent
module _ (c : After-held-record) where
  abbrev found : In_ok-seq
  found = (goal.at.After-held-record c).In_ok-seq

  -- the record that is stored is the announcement's
  kept-known : bytes c.held-record.result ≡ encoding (announced_by (config (at found)).own (payload (at found)))
  unfolding announced_by
  kept-known =
      c.held-record.ensures
      ∙ ap₂ (λ (s : ℕ) (p : List ℕ). encoding (Held s p Nothing)) c.insert-ours.ensures
      (c.load.ensures ∙ payload-loaded (payload (at found)) (at found).if-payload-ne-SIZE.false)

  well-formed : WellFormed (config (at found)).n (config (at found)).own (quorum (config (at found))) (config (at found)).own (announced_by (config (at found)).own (payload (at found)))
  well-formed =
      let g = good-says (config (at found)) (made (at found)).config_good in
      announced-well-formed (config (at found)).n (quorum (config (at found))) (config (at found)).own (payload (at found)) g.known g.most
      (at found).if-payload-ne-SIZE.false

  -- and so is its bundle
  sent-known : sent (slot found) (bytes c.held-record.result) ≡ bundle_of (announced_header (config (at found)) (seq found)) (payload (at found))
  unfolding sent announced_by
  sent-known =
      let (signed, same, aside) =
      encoding-fields (config (at found)).n (config (at found)).own (quorum (config (at found))) (config (at found)).own
      (good-says (config (at found)) (made (at found)).config_good).most (announced_by (config (at found)).own (payload (at found))) refl well-formed in
      ap₂ bundle_of (ap (header_of (slot found)) (ap signers_field kept-known ∙ signed)) (ap payload_field kept-known ∙ same)

place-known : (c : After-place-start) → let told = found (goal.at.After-place-start c).After-held-record in c.place-start.result ≡ place (config (at told)) (slot told)
place-known c =
    let told = found (goal.at.After-place-start c).After-held-record in
    c.place-start.ensures ∙ ap slot_place c.slot_of_day.ensures ∙ sym (place-slot (config (at told)) (slot told) (made (at told)).config_good (range-known told))

pub returns-then-not-good : goal.returns-then-not-good
returns-then-not-good c =
    let (told, (kept, same)) = broadcast-no-effect _ _ _ _ _ (broadcast-bad _ _ _ _ (sym c.good.ensures ∙ c.if-not-good.true)) in
    record { result_value = told; records_after = kept; out_after = same }

pub returns-then-payload-ne-SIZE : goal.returns-then-payload-ne-SIZE
returns-then-payload-ne-SIZE c =
    let (told, (kept, same)) = broadcast-no-effect _ _ _ _ _
    (broadcast-payload _ _ _ _ (good-known (goal.at.returns-then-payload-ne-SIZE c).Else-not-good) c.if-payload-ne-SIZE.true) in
    record { result_value = told; records_after = kept; out_after = same }

pub returns-then-out-ne-SIZE : goal.returns-then-out-ne-SIZE
returns-then-out-ne-SIZE c =
    let (told, (kept, same)) = broadcast-no-effect _ _ _ _ _
    (broadcast-out _ _ _ _ (good-known (goal.at.returns-then-out-ne-SIZE c).Else-not-good) c.if-payload-ne-SIZE.false c.if-out-ne-SIZE.true) in
    record { result_value = told; records_after = kept; out_after = same }

-- no day is made of records of another length,
dayless : (c : After-from_residual)
    → broadcast c.args.config c.args.payload.now c.args.records.now c.args.out.now ≡ refused (number_of c.in_err-day.field-0.0)
dayless c =
    let good_there = sym c.good.ensures ∙ c.if-not-good.false in
    let (number, wrong) = day-length c.args.config c.args.records.now good_there _ c.in_err-day.ensures in
    broadcast-size _ _ _ _ good_there c.if-payload-ne-SIZE.false c.if-out-ne-SIZE.false wrong ∙ ap refused (sym number)

pub returns-in_err-day : goal.returns-in_err-day
returns-in_err-day c =
    let (told, (kept, same)) = broadcast-no-effect _ _ _ _ _ (dayless c) in
    record { result_value = passed-on _ _ _ c.from_residual.ensures.1 ∙ told; records_after = kept; out_after = same }

-- and where the search has found no number, its refusal is that of broadcasting
stopped : (c : After-from_residual-in_err-seq)
    → broadcast c.args.config c.args.payload.now c.args.records.now c.args.out.now ≡ refused (number_of c.in_err-seq.field-0.0)
stopped c = sym (c.in_err-seq.ensures ∙ searched (goal.at.After-from_residual-in_err-seq c).In_ok-day)

pub returns-in_err-seq : goal.returns-in_err-seq
returns-in_err-seq c =
    let (told, (kept, same)) = broadcast-no-effect _ _ _ _ _ (stopped c) in
    record { result_value = passed-on _ _ _ c.from_residual-in_err-seq.ensures.1 ∙ told; records_after = kept; out_after = same }

pub put-requires : goal.put-requires
put-requires c = let told = found (goal.at.put-requires c).After-held-record in rw (place-known (goal.at.put-requires c).After-place-start) (fits told)

pub returns : goal.returns
unfolding stored slot_of_day
returns c =
    let work = announced (found (goal.at.returns c).After-held-record) in
    let (records-left, out-left) = broadcast-effect _ _ _ _ _ work in
    record {
      result_value = sym work;
      records_after = c.put.ensures
          ∙ ap₂ (λ (k : ℕ) (xs : List ℕ). replaced k xs c.args.records.now) (place-known (goal.at.returns c).After-place-start) (kept-known (goal.at.returns c).After-held-record)
          ∙ records-left;
      out_after = c.send.ensures ∙ sent-known (goal.at.returns c).After-held-record ∙ out-left;
    }
