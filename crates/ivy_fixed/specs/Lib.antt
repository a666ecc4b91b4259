pub mod stated
pub mod FixedLaws
