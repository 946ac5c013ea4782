-- Laws of this crate that belong to no one function.
pub mod Choices
pub mod TableFields
pub mod RowFields
pub mod RowParts
pub mod LineLengths
pub mod StepRows
pub mod RowNodes
