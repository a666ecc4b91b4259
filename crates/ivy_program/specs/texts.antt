-- What the text of programs is.
pub mod Numbers
pub mod TextWords
pub mod Operands
pub mod Lines
pub mod Readings
pub mod Texts
pub mod Drafts
pub mod Names
pub mod ProgramParts
