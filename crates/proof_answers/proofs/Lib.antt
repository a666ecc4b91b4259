pub mod answers
pub mod fairness
pub mod sweeps
pub mod late
pub mod steady
