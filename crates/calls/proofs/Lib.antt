-- Laws of the calls that belong to no one function.
pub mod RecordBounds
pub mod Refusals
pub mod NoEffect
pub mod Records
pub mod Days
pub mod FreeNumber
pub mod LowestFree
pub mod ReceiveFacts
pub mod SentReadsBack
pub mod Settling
pub mod Algorithm
pub mod Differences
pub mod Notes
pub mod Locality
pub mod Unique
pub mod Preserved
