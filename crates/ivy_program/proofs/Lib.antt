pub mod reading
pub mod running
