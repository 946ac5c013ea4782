-- What the contracts of this crate cite, and what is claimed of it.
pub mod Bundle
pub mod Inner
pub mod RoundTrip
pub mod Refusals
