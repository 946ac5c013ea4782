-- R5.4, for 1 to 10, and R5.5, for 20 to 28: the number of each reason, under the condition on which it applies.
-- Assumes nothing.
use Rattle.std.specs.Prelude.{ℕ, Result, Ok, Err}
use Rattle.refusal.specs.Outcome.{Outcome, refused, done}
use Rattle.refusal.specs.declared.Refusal.{Refusal}
use Rattle.refusal.specs.declared.Refusal.TheVariants.{BadConfig, BundleLength, ReservedBytes, OtherDay, SenderRange, SeqRange, SignerRange, SenderUnsigned, PayloadLength, OutLength, RecordsLength, MalformedRecord, AlreadyDelivered, OwnSignatureUnknown, OtherPayload, NoFreeSlot, NotDelivered, TooFewSetpoints, SameNode}

abbrev pub number_of : Refusal → ℕ
-- the configuration is not good
number_of BadConfig = 1
-- the bundle has another length than 32
number_of BundleLength = 2
-- one of the bundle's reserved bytes, 6 and 7, is not zero
number_of ReservedBytes = 3
-- the bundle's day is not the configuration's
number_of OtherDay = 4
-- the sender is not below n
number_of SenderRange = 5
-- the sequence number is not below 16
number_of SeqRange = 6
-- a signer is not below n
number_of SignerRange = 7
-- the sender is not among the signers
number_of SenderUnsigned = 8
-- the payload has another length than 16
number_of PayloadLength = 9
-- the outgoing buffer has another length than 32
number_of OutLength = 10
-- the buffer of records has another length than 1,024 × n
number_of RecordsLength = 20
-- the record is not well-formed
number_of MalformedRecord = 21
-- the slot is delivered here
number_of AlreadyDelivered = 22
-- we are among the bundle's signers, and our record does not hold its payload
number_of OwnSignatureUnknown = 23
-- our record holds another payload and notes a third, and the bundle has no quorum of signers
number_of OtherPayload = 24
-- our sixteen records are all in use
number_of NoFreeSlot = 25
-- the slot is not delivered here
number_of NotDelivered = 26
-- fewer than 2t + 1 senders have a delivered setpoint
number_of TooFewSetpoints = 27
-- both own numbers are the same
number_of SameNode = 28

-- the outcome that a result tells (R17.3): what its value says, or the number of its reason
abbrev pub outcome_of : {A B : Type 0} → (A → B) → Result A Refusal → Outcome B
outcome_of says (Ok value) = done (says value)
outcome_of says (Err reason) = refused (number_of reason)

-- of a call that has nothing to tell where it did its work
abbrev pub verdict_of : Result Unit Refusal → Outcome Unit
verdict_of verdict = outcome_of (λ _. tt) verdict
