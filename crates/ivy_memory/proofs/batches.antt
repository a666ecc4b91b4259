-- Calls of a row that begin together.
pub mod Along
pub mod AtOnce
pub mod CallsLeft
pub mod CallsTold
pub mod RowBegins
pub mod BatchedReplies
