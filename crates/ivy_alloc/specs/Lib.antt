pub mod stated
pub mod Extents
pub mod Heap
pub mod Tied
pub mod Laws
pub mod HeapCalls
