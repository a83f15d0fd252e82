pub mod Cuts
pub mod Runs
pub mod Lexing
pub mod Steps
