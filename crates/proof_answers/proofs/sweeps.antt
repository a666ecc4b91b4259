pub mod Few
pub mod FewWorlds
pub mod Posting
pub mod Owing
pub mod Sweeping
pub mod Swept
pub mod MoreSweeps
