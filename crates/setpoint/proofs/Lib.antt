-- The laws of this crate.
pub mod Words
pub mod Examples
