-- Locks and tickets: who is inside.
pub mod Registers
pub mod Locks
pub mod Sections
pub mod Tickets
pub mod Locked
pub mod TicketLocks
pub mod Serial
pub mod ArrayLocks
pub mod ArraySections
pub mod Seated
