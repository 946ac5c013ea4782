-- Laws of this crate that belong to no one function.
pub mod Numbers
pub mod WordRead
pub mod WordWritten
pub mod ComputedTests
pub mod Same
pub mod Booleans
