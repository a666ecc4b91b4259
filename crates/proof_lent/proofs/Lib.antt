pub mod Pieces
pub mod Serving
pub mod Seen
pub mod Once
pub mod Members
pub mod WordCalls
pub mod LentWorlds
pub mod Numbers
