-- The two records of a slot, and who is named by them.
-- Assumes nothing.
use mathlib.Core.Path.{◌≡◌, sym, ap₂, ◌∙◌}
use mathlib.Core.Bool.{true}
use mathlib.Core.List.{List, ◌++◌}
use Prim.Native.Nat.{ℕ}
use Rattle.config.specs.declared.Config.{Config}
use Rattle.config.specs.Config.{slot_of_day, with_own}
use Rattle.record.specs.declared.Record.{Record}
use Rattle.record.specs.Record.{decoded, well_formed, bytes}
use Rattle.record.proofs.Words.{Fits}
use Rattle.calls.specs.Records.{record_at}
use Rattle.equivocators.specs.Entries.{entries, signed_two}
use Rattle.equivocators.specs.Equivocators.{slot_entries}
use Rattle.equivocators.specs.Inner.{among_records, slot_names}
use Rattle.equivocators.proofs.Entries.{four-alike}
use Rattle.equivocators.proofs.Halves.{halves-alike}

-- both
module _ (config : Config) (other : ℕ) (first second : List ℕ) (sender seq : ℕ) (here there : Record) (f : Fits here) (h : Fits there)
    (at_here : bytes here ≡ record_at config (slot_of_day config sender seq) first) (at_there : bytes there ≡ record_at (with_own config other) (slot_of_day config sender seq) second)
    (formed : well_formed config sender (bytes here) ≡ true) (formed-other : well_formed (with_own config other) sender (bytes there) ≡ true) where
  pub names-there : (node : ℕ) → among_records here there node ≡ slot_names config other first second sender seq node
  unfolding slot_entries entries
  names-there node =
      let a = halves-alike here f config sender formed in
      let b = halves-alike there h (with_own config other) sender formed-other in
      sym (four-alike _ _ _ _ _ _ _ _ node a.0 a.1 b.0 b.1)
      ∙ ap₂ (λ (x y : List ℕ). signed_two (entries (decoded x) ++ entries (decoded y)) node) at_here at_there
