-- The laws of pieces of the input, of the first line of one, and of what is kept between two.
pub mod Pieces
pub mod FirstLine
pub mod Kept
