-- What the headline reaches of this crate's definitions.
pub mod Instructions
pub mod ProgramLimits
pub mod Programs
pub mod ProgramRuns
pub mod States
pub mod InstructionSteps
