pub mod Answers
pub mod Flat
pub mod BlockAnswers
pub mod Endless
