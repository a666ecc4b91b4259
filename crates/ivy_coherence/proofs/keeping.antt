-- What each event keeps.
pub mod NextHop
pub mod IdleServing
pub mod Undoing
pub mod Fetched
pub mod Changing
pub mod EventTable
pub mod SoundEntries
pub mod Keeping
pub mod Accesses
pub mod Same
pub mod Opened
pub mod OpenedFetches
pub mod Left
