-- What calls and messages keep.
pub mod WellBehaved
pub mod Begun
pub mod Beginning
pub mod Polling
pub mod Same
pub mod Fetches
