-- What a call is to the flat memory, and to pages and the heap.
pub mod Asking
pub mod Placing
pub mod Sides
pub mod Pages
pub mod HeapCallsServed
pub mod WordsServed
pub mod CallsServed
