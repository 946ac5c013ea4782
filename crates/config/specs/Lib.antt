-- What the contracts of this crate cite, and what is claimed of it.
pub mod Config
pub mod Quorum
pub mod Tables
