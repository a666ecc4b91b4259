pub mod Printed
pub mod Lines
pub mod Drawn
pub mod Spelled
