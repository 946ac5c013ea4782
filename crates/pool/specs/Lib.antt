-- What the contracts of this crate and of those above it cite, and what is claimed of it.
pub mod Pool
pub mod Between
pub mod Range
pub mod Stays
pub mod Inner
