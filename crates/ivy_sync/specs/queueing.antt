-- Queues: what is taken is what was sent.
pub mod Messages
pub mod Queues
pub mod SharedQueues
