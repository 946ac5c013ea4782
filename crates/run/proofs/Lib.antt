-- That playing byte by byte prints what specs/Run.antt says of the whole input, and the laws that the proofs of the functions go by.
pub mod RecordsByCalls
pub mod ByLines
pub mod LineByLine
pub mod Streams
pub mod LineAfterLine
pub mod Finishing
