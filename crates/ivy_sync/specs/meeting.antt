-- Barriers, broadcasts and reductions.
pub mod Counts
pub mod Barriers
pub mod Phases
pub mod Reductions
pub mod Broadcasts
pub mod Sums
pub mod Folds
pub mod Separated
pub mod WordBarriers
pub mod TreeBarriers
pub mod TreeReductions
pub mod TreeFolds
