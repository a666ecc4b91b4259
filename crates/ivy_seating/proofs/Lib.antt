pub mod Seats
pub mod Collected
pub mod WireTurns
pub mod Living
pub mod Kept
