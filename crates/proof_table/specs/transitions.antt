pub mod Letters
pub mod TableSteps
