-- How many messages an event posts.
pub mod FewServed
pub mod Few
