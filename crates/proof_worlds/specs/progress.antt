pub mod Ending
pub mod Answering
pub mod Strings
