-- What the contracts of the C interface cite, and which codes a host sees.
pub mod Code
