-- What the headline reaches of this crate's definitions.
pub mod Data
pub mod DecodeErrors
pub mod Lengths
pub mod Posts
pub mod Reading
pub mod Spelling
