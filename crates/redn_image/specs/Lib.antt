pub mod Rules
pub mod View
pub mod Spelling
pub mod Agreement
pub mod Faithful
pub mod Answers
pub mod Laws
