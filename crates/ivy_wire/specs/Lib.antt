pub mod stated
pub mod Heads
pub mod DecodeErrors
pub mod Destinations
pub mod Grammar
pub mod Lent
pub mod Posts
pub mod Texts
