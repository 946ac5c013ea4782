-- What the contracts of the crates above cite, and what is claimed of the protocol on values.
pub mod Update
pub mod Algorithm
pub mod Trace
pub mod OneSlot
pub mod Notes
pub mod Differences
pub mod Tight
