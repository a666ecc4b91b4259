pub mod serving
pub mod batches
pub mod keeping
