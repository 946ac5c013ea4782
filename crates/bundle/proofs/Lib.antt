-- Laws of the bundle that belong to no one function.
pub mod Fields
pub mod Accepted
pub mod RoundTrip
pub mod Refusals
pub mod Example
