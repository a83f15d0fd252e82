pub mod Faults
pub mod Statements
pub mod Names
pub mod Rules
pub mod Flow
pub mod Numbering
pub mod Answers
