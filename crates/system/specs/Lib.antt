-- What is claimed of all correct nodes together, and lists of calls that are written out.
pub mod Demand3
pub mod Order
pub mod Example
pub mod Stricter
pub mod SlotBySlot
pub mod Differences
pub mod Notes
pub mod Shown
pub mod Previews
pub mod Play
pub mod Tight
