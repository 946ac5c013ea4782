-- Laws of the record that belong to no one function.
pub mod Words
pub mod WellFormed
pub mod UpdateCases
pub mod Encoding
pub mod Unique
