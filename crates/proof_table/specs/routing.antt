pub mod Claiming
pub mod Managing
pub mod Hinting
