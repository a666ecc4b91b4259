pub mod stated
pub mod Asking
pub mod Flat
pub mod Memories
pub mod AtOnce
pub mod BatchedCalls
pub mod BatchedReplies
