pub mod FewUnderWay
pub mod Sweeps
pub mod MoreSweeps
