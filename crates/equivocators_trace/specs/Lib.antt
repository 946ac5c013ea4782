-- Who is named by the records that a list of calls leaves at two nodes, and lists of calls, written out.
pub mod Correct
pub mod Example
