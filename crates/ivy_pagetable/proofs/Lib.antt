pub mod NodeSets
pub mod Words
pub mod Bits
pub mod Regions
pub mod RowsCarried
pub mod WideTables
pub mod LockedEntries
