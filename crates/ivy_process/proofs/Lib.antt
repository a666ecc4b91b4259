pub mod Kept
pub mod Logged
pub mod OwnNodes
