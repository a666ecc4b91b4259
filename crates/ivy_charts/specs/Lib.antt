pub mod Sent
pub mod Tallies
pub mod Heard
pub mod Noted
pub mod Heads
