pub mod Printing
pub mod Drawing
pub mod Worded
pub mod Calls
