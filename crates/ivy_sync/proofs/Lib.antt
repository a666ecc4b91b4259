pub mod answers
pub mod meeting
pub mod excluding
pub mod queueing
pub mod Touched
