pub mod stated
pub mod Instructions
pub mod Programs
pub mod InstructionSteps
pub mod Calls
pub mod OwnCode
pub mod Runners
pub mod texts
