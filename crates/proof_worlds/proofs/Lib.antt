pub mod refinement
pub mod consistency
pub mod progress
pub mod headline
