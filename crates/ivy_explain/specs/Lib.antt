pub mod Refused
pub mod Statuses
