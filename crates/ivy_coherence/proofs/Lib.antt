pub mod keeping
pub mod posting
pub mod batches
