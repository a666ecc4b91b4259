pub mod Starts
pub mod WellBehaved
pub mod Pages
pub mod Turns
pub mod Same
pub mod HandedHosts
pub mod Programs
