pub mod Fetches
pub mod Printing
pub mod Opened
pub mod Uncalled
