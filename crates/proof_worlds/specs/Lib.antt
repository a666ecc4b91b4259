pub mod stated
pub mod consistency
pub mod progress
pub mod headline
