-- What the headline reaches of this crate's definitions.
pub mod Asking
pub mod Beside
pub mod Memories
pub mod Sound
