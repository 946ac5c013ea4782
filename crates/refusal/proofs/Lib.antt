-- Laws of this crate that belong to no one function.
pub mod Reasons
pub mod Unique
pub mod Passed
