-- The laws of the last rows: the display norm, how long the rows are, and how they are written one after the other.
pub mod LastRows
pub mod DisplayNorm
