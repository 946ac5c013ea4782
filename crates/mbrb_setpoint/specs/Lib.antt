-- What the contracts of this crate cite, and what is claimed of the codes.
pub mod Code
