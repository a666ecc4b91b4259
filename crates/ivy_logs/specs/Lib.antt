pub mod Spelled
pub mod Printed
pub mod Entries
pub mod Digits
pub mod ReadBack
pub mod Faults
pub mod Sums
