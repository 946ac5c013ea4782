-- What the contracts of this crate cite, and what the laws of proofs/ are about.
pub mod Sets
pub mod Signers
pub mod Words
