pub mod stated
pub mod transitions
pub mod routing
pub mod waiting
