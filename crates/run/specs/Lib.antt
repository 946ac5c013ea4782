-- What is printed for an input by the rules, what the contracts of this crate cite, and that the two print the same.
pub mod Run
pub mod Stream
