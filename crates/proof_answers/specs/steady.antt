pub mod Steady
pub mod SendsOn
