-- What the headline reaches of this crate's definitions.
pub mod Accesses
pub mod Entries
pub mod EntryLimits
pub mod Manager
pub mod NodeSets
pub mod States
pub mod TableState
pub mod Tables
pub mod Words
