-- What the contracts of this crate and of those above it cite.
pub mod Bytes
pub mod Inner
