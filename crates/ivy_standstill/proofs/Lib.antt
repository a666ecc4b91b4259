pub mod Telling
pub mod SoFar
