pub mod Played
pub mod PrintedOrder
pub mod Statuses
