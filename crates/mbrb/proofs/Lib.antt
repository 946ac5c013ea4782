-- Laws of the codes.
pub mod Codes
