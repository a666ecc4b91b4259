pub mod Peers
pub mod Counting
pub mod Sending
pub mod Passed
pub mod Pulses
pub mod Pairs
pub mod Making
pub mod Orderly
pub mod Holds
pub mod Fits
pub mod Boxes
mod Kepts
