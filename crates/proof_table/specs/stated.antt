-- What the headline reaches of this crate's definitions.
pub mod Descending
pub mod Routing
pub mod Sending
pub mod Waiting
pub mod Letters
pub mod Orderly
