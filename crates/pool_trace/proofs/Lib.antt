-- The laws of what is pooled on a list of calls, and two lists that are computed.
pub mod SamePool
pub mod Announced
pub mod Outcomes
pub mod Example
