-- Laws of the block that belong to no one function.
pub mod Laws
