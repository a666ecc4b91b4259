-- What the headline reaches of this crate's definitions.
pub mod Coherent
pub mod Fetching
pub mod IdleSound
pub mod PageFaults
pub mod Serving
pub mod Several
pub mod Sound
pub mod MessageSteps
