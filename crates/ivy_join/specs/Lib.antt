pub mod ReplaySites
pub mod Joined
pub mod Exact
pub mod Latest
pub mod OwnJoined
pub mod Remade
pub mod Calls
