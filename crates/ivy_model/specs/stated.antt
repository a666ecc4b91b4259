-- What the headline reaches of this crate's definitions.
pub mod Accesses
pub mod Config
pub mod Explains
pub mod Legal
pub mod Limits
pub mod Memory
pub mod Numbers
pub mod PageSize
pub mod Serves
