pub mod SessionLimits
pub mod Stops
