pub mod Late
pub mod LateLaws
