pub mod Orders
pub mod Seen
pub mod StateWords
pub mod States
