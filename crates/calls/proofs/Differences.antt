-- The differences from Algorithm 1 on a call: what specs/Differences.antt claims, from the same on values.
-- Assumes nothing.
use mathlib.Core.Path.{◌≡◌, ◌∙◌}
use Rattle.refusal.specs.Outcome.{done}
use Rattle.config.specs.Config.{quorum}
use Rattle.bundle.specs.Bundle.{payload_part, slot_of}
use Rattle.protocol.specs.Update.{Empty, update}
use Rattle.protocol.proofs.Differences as values
use Rattle.calls.specs.Algorithm.{record_of}
use Rattle.calls.specs.Differences.{OtherNeedsQuorum, OneBundleForBoth}
use Rattle.calls.proofs.Refusals.{receive-left}
use Rattle.calls.proofs.ReceiveFacts.{read-says, receive-done}

pub other-needs-quorum : OtherNeedsQuorum
other-needs-quorum config bundle records out h result taken other =
    let (room, long, stepped, formed) = receive-done config bundle records out h taken.accepted result taken.answered in
    values.other-needs-quorum config.own (quorum config) h.signers (payload_part config bundle) (record_of config (slot_of h) records) result stepped other

pub one-bundle-for-both : OneBundleForBoth
one-bundle-for-both config bundle records out h result taken empty d =
    let ok = read-says config bundle h taken.accepted in
    let (room, long, stepped, formed) = receive-done config bundle records out h taken.accepted result taken.answered in
    let first : update config.own (quorum config) h.signers (payload_part config bundle) Empty ≡ done result = rw empty at stepped in
    let (is, ours, theirs) = values.one-bundle-for-both config.own (quorum config) h.sender h.signers (payload_part config bundle) result ok.bundled.authentic first d in
    ((receive-left config bundle records out result taken.answered).1 ∙ rw (is, ok.slot-named), rw (ok.fields, ← ok.payload) theirs)
