pub mod Lent
pub mod LentWorlds
pub mod Numbers
