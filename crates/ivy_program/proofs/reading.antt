-- How a text is read: its lines, words, labels and jumps.
pub mod Widths
pub mod Drafts
pub mod Cuts
pub mod Ends
pub mod Names
pub mod Least
pub mod Zips
pub mod Lasts
pub mod Drawn
pub mod Jumps
pub mod Orders
pub mod Unique
pub mod Reading
pub mod Settled
pub mod Whole
pub mod Lengths
pub mod Wording
