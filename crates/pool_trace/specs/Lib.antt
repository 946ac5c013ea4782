-- What is said of the setpoints that are pooled on a list of calls, and two lists of calls, written out.
pub mod Announced
pub mod Example
