-- The laws of lines: what the end of one must leave, step rows that are read, and that the first bytes of a long line are enough.
pub mod LineEnds
pub mod ReadRows
pub mod LongLines
