-- The laws of this crate.
pub mod Pool
pub mod Between
pub mod Range
pub mod Stays
