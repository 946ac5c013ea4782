-- `compare_slot` meets its contract: where both records are well-formed, their halves name who is named. Assumes nothing.
use mathlib.Core.Path.{◌≡◌, ap, ap₂, ◌∙◌}
use mathlib.Core.Bool.{◌&&◌, and-false, true}
use Prim.Native.Nat.{ℕ, ◌<◌}
use native.Mathlib.Omega.{arith}
use Rattle.std.proofs.lemmas.Result.{err_from_is_err_and}
use mathlib.Core.List.{List}
use Rattle.refusal.specs.Outcome.{Outcome}
use Rattle.config.specs.declared.Config.{Config}
use Rattle.config.specs.Config.{slot_of_day, with_own}
use Rattle.record.specs.Record.{bytes, well_formed}
use Rattle.record.proofs.Words.{Fits}
use Rattle.calls.specs.Records.{record_at}
use Rattle.calls.specs.WellFormed.{slot_well_formed}
use Rattle.calls.specs.Day.{slot_record}
use Rattle.calls.proofs.Days.{loaded-formed, slot-given, slot-refused}
use Rattle.equivocators.proofs.Halves.{words-fit, distinct}
use Rattle.equivocators.proofs.Slots.{names-there}
use Rattle.equivocators.proofs.Pair.compare_slot.Goals as goal
use Rattle.equivocators.proofs.Pair.compare_slot.Goals.{In_ok-here, In_ok-there}

module _ (c : In_ok-here) where
  -- the first record
  here-given : (slot_well_formed c.args.self.here.config c.args.self.here.records.now c.args.sender c.args.seq ≡ true)
      × (bytes c.in_ok-here.here ≡ record_at c.args.self.here.config (slot_of_day c.args.self.here.config c.args.sender c.args.seq) c.args.self.here.records.now)
  here-given = slot-given _ _ c.args.sender c.args.seq _ c.in_ok-here.ensures

  here-fits : Fits c.in_ok-here.here
  here-fits = words-fit c.in_ok-here.here (omega arith) (omega arith) (omega arith) (omega arith) (omega arith) (omega arith) (omega arith) (omega arith)

  here-formed : well_formed c.args.self.here.config c.args.sender (bytes c.in_ok-here.here) ≡ true
  here-formed = loaded-formed _ _ c.args.sender c.args.seq _ here-given.1 ∙ here-given.0

  -- the second configuration
  abbrev there_config : Config
  there_config = with_own c.args.self.here.config c.args.self.there.config.own

  there-known : c.args.sender < there_config.n
  unfolding with_own
  there-known = c.requires.sender_lt_n

  -- by which the second record is told
  abbrev there_record : Config → Outcome (List ℕ)
  there_record k = slot_record k c.args.self.there.records.now c.args.sender c.args.seq

module _ (c : In_ok-there) where
  abbrev before : In_ok-here
  before = (goal.at.In_ok-there c).In_ok-here

  there-given : (slot_well_formed (there_config before) c.args.self.there.records.now c.args.sender c.args.seq ≡ true)
      × (bytes c.in_ok-there.there ≡ record_at (there_config before) (slot_of_day (there_config before) c.args.sender c.args.seq) c.args.self.there.records.now)
  there-given = slot-given _ _ c.args.sender c.args.seq _ (c.in_ok-there.ensures ∙ ap (there_record before) c.args.self.same_system)

  there-fits : Fits c.in_ok-there.there
  there-fits = words-fit c.in_ok-there.there (omega arith) (omega arith) (omega arith) (omega arith) (omega arith) (omega arith) (omega arith) (omega arith)

  there-formed : well_formed (there_config before) c.args.sender (bytes c.in_ok-there.there) ≡ true
  there-formed = loaded-formed _ _ c.args.sender c.args.seq _ there-given.1 ∙ there-given.0

pub returns-in_err-here : goal.returns-in_err-here
returns-in_err-here c =
    let p = err_from_is_err_and c.from_residual.result c.from_residual.ensures.1 in
    let told = slot-refused _ _ c.args.sender c.args.seq c.requires.sender_lt_n c.requires.seq_lt_slots _ c.in_err-here.ensures in
    rw (p.1, p.2) (rw told.0, told.1)

pub returns-in_err-there : goal.returns-in_err-there
returns-in_err-there c =
    let at = (goal.at.returns-in_err-there c).In_ok-here in
    let p = err_from_is_err_and c.from_residual-in_err-there.result c.from_residual-in_err-there.ensures.1 in
    let told =
    slot-refused (there_config at) c.args.self.there.records.now c.args.sender c.args.seq (there-known at) c.requires.seq_lt_slots _
    (c.in_err-there.ensures ∙ ap (there_record at) c.args.self.same_system) in
    rw (p.1, p.2) (rw told.0 (and-false _), told.1)

pub among-requires : goal.among-requires
among-requires c = record {
  distinct = distinct c.in_ok-here.here (here-fits (before c)) c.args.self.here.config c.args.sender (here-formed (before c));
  distinct_2 = distinct c.in_ok-there.there (there-fits c) (there_config (before c)) c.args.sender (there-formed c);
}

pub returns : goal.returns
unfolding slot_of_day with_own
returns c =
    let two = (goal.at.returns c).In_ok-there in
    let one = before two in
    let p = c.args.self in (
      ap₂ ◌&&◌ (here-given one).0 (there-given two).0,
      λ node.
          c.among.ensures node
          ∙ names-there p.here.config p.there.config.own p.here.records.now p.there.records.now c.args.sender c.args.seq c.in_ok-here.here c.in_ok-there.there
          (here-fits one) (there-fits two) (here-given one).1 (there-given two).1 (here-formed one) (there-formed two) node,
    )
