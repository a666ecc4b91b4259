-- Queues: what is taken is what was sent.
pub mod Added
pub mod Messages
pub mod Queues
pub mod Pushing
pub mod SharedCalls
pub mod SharedPushing
pub mod Merging
pub mod Sharing
