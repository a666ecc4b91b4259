pub mod Noted
pub mod Places
mod Sent
pub mod Following
pub mod Opening
pub mod Kept
pub mod Parts
pub mod Splitting
pub mod Moments
pub mod Early
pub mod GoingOn
pub mod Leading
pub mod Unseen
pub mod Carried
pub mod Lasts
pub mod Rowed
