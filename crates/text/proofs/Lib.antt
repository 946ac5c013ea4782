-- Laws of this crate that belong to no one function.
pub mod Bytewise
pub mod Fields
pub mod FieldPositions
pub mod DigitValues
pub mod HexWords
pub mod WriteLaws
pub mod WrittenTexts
pub mod DecimalDigits
