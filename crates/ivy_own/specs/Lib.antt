pub mod OwnSeats
pub mod Ended
pub mod Faults
pub mod Reports
pub mod Known
pub mod Rule
