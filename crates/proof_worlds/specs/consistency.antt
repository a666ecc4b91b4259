pub mod Copied
pub mod Alone
