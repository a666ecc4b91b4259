pub mod Places
pub mod Wire
pub mod Reports
pub mod Collected
pub mod Turns
