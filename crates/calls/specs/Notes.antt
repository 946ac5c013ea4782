-- R8.17, of the call: what a record notes never counts. protocol's specs/Notes.antt has it on values, with what it means that two outcomes are the same but for
-- notes (`SameButNotes`). It is proved in proofs/Notes.antt.
-- Assumes nothing.
use Rattle.std.specs.Prelude.{◌≡◌, true, List, length, ℕ}
use Rattle.config.specs.declared.Config.{Config}
use Rattle.bundle.specs.Bundle.{slot_in}
use Rattle.protocol.specs.Notes.{held_half, SameButNotes}
use Rattle.record.specs.Record.{well_formed}
use Rattle.calls.specs.Records.{record_at}
use Rattle.calls.specs.Receive.{receive, receive_out}
use Rattle.calls.specs.Algorithm.{record_of}

-- Two buffers whose records of the bundle's slot are well-formed and differ in what they note alone: every bundle is answered alike there, but for noted and
-- 24, the records left are alike but for notes, and the outgoing bytes are the same.
abbrev pub NotesNeverCount : Type 0
NotesNeverCount =
    (config : Config) (bundle records others out : List ℕ) → length records ≡ length others
    → well_formed config (slot_in bundle).sender (record_at config (slot_in bundle) records) ≡ true
    → well_formed config (slot_in bundle).sender (record_at config (slot_in bundle) others) ≡ true
    → held_half (record_of config (slot_in bundle) records) ≡ held_half (record_of config (slot_in bundle) others)
    → SameButNotes (record_of config (slot_in bundle) records) (record_of config (slot_in bundle) others)
    (receive config bundle records out) (receive config bundle others out)
    × (receive_out config bundle records out ≡ receive_out config bundle others out)
