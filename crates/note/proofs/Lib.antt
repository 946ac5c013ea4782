-- Laws of the note that belong to no one function.
pub mod Words
pub mod Encoding
pub mod Unique
