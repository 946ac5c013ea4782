-- Laws of the configuration that belong to no one function.
pub mod Laws
pub mod Quorum
pub mod Tables
