pub mod Bytes
pub mod Tokens
pub mod Lexemes
pub mod Grammar
pub mod Canonical
