-- What the private functions of this crate promise each other. No public contract rests on these; a reader may pass them over.
-- Assumes nothing.
use Rattle.std.specs.Prelude.{◌≡◌, ◌⊎◌, Bool, true, false, ◌&&◌, List, [], ◌∷◌, ◌++◌, ℕ, not, Result, Ok, Err}
use Rattle.octets.specs.Octets.{same}
use Rattle.payload.specs.declared.Payload.{Payload}
use Rattle.payload.specs.Payload as payload
use Rattle.signers.specs.Sets.{NodeSet}
use Rattle.signers.specs.Signers.{member}
use Rattle.refusal.specs.declared.Refusal.{Refusal}
use Rattle.refusal.specs.Refusal.{number_of}
use Rattle.refusal.specs.Outcome.{Outcome, Reason, ◌if◌, unless}
use Rattle.config.specs.declared.Config.{Config}
use Rattle.config.specs.Config.{good, slots, with_own}
use Rattle.protocol.specs.Trace.{each}
use Rattle.record.specs.declared.Record.{Record}
use Rattle.calls.specs.Records.{wrong_size}
use Rattle.calls.specs.WellFormed.{slot_well_formed}
use Rattle.equivocators.specs.Entries.{Entry, signed_both, signed_two}
use Rattle.equivocators.specs.Equivocators.{some_below, slot_entries, equivocates}

-- the word has the members of the set
abbrev pub Names : NodeSet → (word : ℕ) → Type 0
Names p word = (node : ℕ) → member word node ≡ p node

-- ---- records as a program has them

abbrev pub entry_of : (signers : ℕ) → Payload → Entry
entry_of signers p = record { signers = signers; payload = payload.bytes p }

abbrev pub signed_both_by : (signers : ℕ) → Payload → (others : ℕ) → Payload → NodeSet
signed_both_by signers p others q = signed_both (entry_of signers p) (entry_of others q)

-- both halves, also where nothing is held or noted
abbrev pub halves : Record → List Entry
halves r = entry_of r.signers r.payload ∷ entry_of r.note.signers r.note.payload ∷ []

abbrev pub among_records : (here there : Record) → NodeSet
among_records here there = signed_two (halves here ++ halves there)

-- nobody is noted, or another payload than the one that is held
abbrev pub Distinct : Record → Type 0
Distinct r = (r.note.signers ≡ 0) ⊎ (same (payload.bytes r.payload) (payload.bytes r.note.payload) ≡ false)

-- ---- the first buffer

-- what is tested before its records are
abbrev pub first_reasons : Config → (other : ℕ) (first : List ℕ) → List Reason
first_reasons config other first = (1 if not (good config)) ∷ (1 if not (good (with_own config other))) ∷ (20 if wrong_size config first) ∷ []

-- it gives the configuration, and the bytes of the records
abbrev pub first_of : Config → (other : ℕ) (first : List ℕ) → Outcome (Config × List ℕ)
first_of config other first = unless (first_reasons config other first) (config, first)

-- ---- comparisons

-- what a comparison finds: who is named, where the records are well-formed, and else 21
abbrev pub Compared : (formed : Bool) (names : NodeSet) → Result ℕ Refusal → Type 0
Compared formed names (Ok named) = (formed ≡ true) × Names names named
Compared formed names (Err reason) = (formed ≡ false) × (number_of reason ≡ 21)

-- both records of a slot are well-formed, those of a sender, and all; and who is named by them
module _ (config : Config) (other : ℕ) (first second : List ℕ) where
  abbrev pub slot_formed : (sender seq : ℕ) → Bool
  slot_formed sender seq = slot_well_formed config first sender seq && slot_well_formed (with_own config other) second sender seq

  abbrev pub sender_formed : (sender : ℕ) → Bool
  sender_formed sender = each (slot_formed sender) slots

  abbrev pub all_formed : Bool
  all_formed = each sender_formed config.n

  abbrev pub slot_names : (sender seq : ℕ) → NodeSet
  slot_names sender seq = signed_two (slot_entries config other first second sender seq)

  abbrev pub sender_names : (sender : ℕ) → NodeSet
  sender_names sender node = some_below (λ seq. slot_names sender seq node) slots

  abbrev pub all_names : NodeSet
  all_names = equivocates config other first second
