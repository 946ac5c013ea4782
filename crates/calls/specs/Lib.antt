-- What the contracts of the calls cite, and what is claimed of them.
pub mod Records
pub mod WellFormed
pub mod Open
pub mod Day
pub mod Broadcast
pub mod FreeNumber
pub mod Receive
pub mod Showing
pub mod Refusals
pub mod Inner
pub mod Locality
pub mod Algorithm
pub mod Differences
pub mod Notes
pub mod Preserved
