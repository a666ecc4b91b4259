mod Each
mod InRow
mod Playing
mod Making
pub mod Stops
mod Reported
mod Ending
mod Ends
mod Counting
mod Drawing
mod Listing
