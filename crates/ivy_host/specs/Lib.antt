pub mod stated
pub mod ManagedLaws
pub mod Handing
