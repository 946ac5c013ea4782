-- A run is a list of calls as RULES section 14 has them.
pub mod Openings
pub mod Calls
pub mod Shown
