pub mod Undropped
pub mod Pulses
pub mod NodeRounds
pub mod Answered
pub mod Came
