-- A run as a list of calls, and what is said of it.
pub mod RunTrace
pub mod Calls
