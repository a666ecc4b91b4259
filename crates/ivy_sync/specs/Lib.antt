pub mod HeapWords
pub mod excluding
pub mod meeting
pub mod Doing
pub mod queueing
pub mod Failing
pub mod Touching
