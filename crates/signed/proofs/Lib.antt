-- The laws of this crate.
pub mod Order
pub mod Bits
