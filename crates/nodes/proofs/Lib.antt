-- The laws of a node's part of the buffer, and of what is printed where there is room for any row.
pub mod Parts
pub mod Printing
