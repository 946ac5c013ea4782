-- The laws of this crate.
pub mod Correct
pub mod Example
