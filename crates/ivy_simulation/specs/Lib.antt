pub mod Judged
pub mod Nodes
pub mod Played
pub mod Simulated
