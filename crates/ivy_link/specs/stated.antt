-- What the headline reaches of this crate's definitions.
pub mod Accepted
pub mod LinkLimits
pub mod Linked
pub mod Paired
pub mod Pulsed
