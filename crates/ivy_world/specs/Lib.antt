pub mod stated
pub mod WorldSites
pub mod Settling
pub mod WorldRounds
pub mod HandedWorlds
