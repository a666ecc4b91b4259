pub mod stated
pub mod Memory
pub mod Blocks
pub mod Flat
pub mod Wants
pub mod Rows
