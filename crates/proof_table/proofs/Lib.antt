pub mod transitions
pub mod routing
pub mod waiting
