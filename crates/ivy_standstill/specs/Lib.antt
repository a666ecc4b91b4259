pub mod CollectedSoFar
pub mod Delivered
pub mod Ends
pub mod SoFar
