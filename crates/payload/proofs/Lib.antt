-- Laws of payloads as values.
pub mod Laws
