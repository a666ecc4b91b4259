pub mod Driven
pub mod Mapped
