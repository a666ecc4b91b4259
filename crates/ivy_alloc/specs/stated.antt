-- What the headline reaches of this crate's definitions.
pub mod Heap
pub mod HeapCalls
pub mod Laws
pub mod HeapAnswers
