-- What the headline reaches of this crate's definitions.
pub mod Cores
pub mod Explained
pub mod FifoWorld
pub mod Following
pub mod Nodes
pub mod Worlds
