pub mod Verdicts
pub mod Leading
pub mod Printing
pub mod Simulating
