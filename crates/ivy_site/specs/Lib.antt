pub mod Managers
pub mod SiteView
pub mod Sites
pub mod Inside
pub mod Handed
pub mod Calls
pub mod Leavings
