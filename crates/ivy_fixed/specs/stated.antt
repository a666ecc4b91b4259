-- What the headline reaches of this crate's definitions.
pub mod Fixed
