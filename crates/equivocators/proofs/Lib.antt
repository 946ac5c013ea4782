-- The laws of this crate.
pub mod Entries
pub mod Halves
pub mod Slots
pub mod Below
pub mod Refusals
pub mod Named
pub mod Computing
pub mod Unique
