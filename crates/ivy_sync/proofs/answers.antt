-- Answers, records and the words of the heap.
pub mod Lists
pub mod Cuts
pub mod AnswerTotals
pub mod HeapWords
pub mod First
pub mod Failing
pub mod Looked
pub mod Below
