pub mod Each
mod Owning
mod InRow
mod Reported
pub mod Totals
pub mod Keeps
