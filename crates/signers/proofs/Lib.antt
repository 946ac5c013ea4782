-- The laws of node sets: their counts, and the words that stand for them.
pub mod Counting
pub mod Members
