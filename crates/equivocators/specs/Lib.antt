-- What the contracts of this crate and of those above it cite, and what is claimed of it.
pub mod Entries
pub mod Equivocators
pub mod Named
pub mod Inner
pub mod Found
