pub mod NodeLogs
pub mod OwnNodes
pub mod Stories
