pub mod Faults
pub mod Given
pub mod Played
pub mod Reports
pub mod Endings
pub mod Ends
pub mod SeedPlays
