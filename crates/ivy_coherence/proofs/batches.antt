-- Words of a row that are carried out together.
pub mod Along
pub mod Hits
pub mod Rests
pub mod RowWaits
pub mod Takes
