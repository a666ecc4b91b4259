-- What the headline reaches of this crate's definitions.
pub mod Fetches
pub mod Holding
pub mod Hosts
pub mod Managers
pub mod Openings
pub mod Sound
