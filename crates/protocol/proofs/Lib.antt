-- What is proved of the protocol on values: the theorem about one slot, from the laws of traces and updates; that an update follows the
-- article's algorithm, and where it differs; and that the theorem's bounds are tight.
pub mod CorrectNodes
pub mod TraceLaws
pub mod UpdateCases
pub mod WellFormed
pub mod TraceInduction
pub mod SentSoFar
pub mod SignedSoFar
pub mod GenuineSignatures
pub mod CorrectSender
pub mod ReceivedBundleKept
pub mod AgreementValidity
pub mod Delivery
pub mod OneSlot
pub mod Notes
pub mod Algorithm
pub mod Differences
pub mod ComputedTests
pub mod Tight
