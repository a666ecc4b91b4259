pub mod Answers
pub mod BlockAnswers
pub mod Fails
pub mod Alone
pub mod Shared
