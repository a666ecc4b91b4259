pub mod stated
pub mod InOrder
pub mod Windows
pub mod Sides
pub mod Holding
pub mod Kept
pub mod Fitting
pub mod Outboxes
