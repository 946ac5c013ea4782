-- The laws of this crate.
pub mod Sorting
pub mod Middle
pub mod Room
