-- How a program runs, and own code as one.
pub mod Nexts
pub mod Handing
pub mod Along
pub mod Awaited
pub mod Running
pub mod Places
pub mod Placed
