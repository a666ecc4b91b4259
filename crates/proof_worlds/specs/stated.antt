-- What the headline reaches of this crate's definitions.
pub mod Keeping
pub mod Reached
pub mod RunState
pub mod RoutedRuns
pub mod Settled
pub mod Still
pub mod Unblocked
pub mod HeapRequests
pub mod Nets
pub mod FifoRuns
