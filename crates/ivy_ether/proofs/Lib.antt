pub mod ListTotals
pub mod Further
pub mod Advancing
pub mod Keeps
pub mod Handing
pub mod Fresh
pub mod Hosts
