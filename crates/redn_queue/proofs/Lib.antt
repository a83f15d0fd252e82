pub mod Windows
pub mod Flying
pub mod Covers
pub mod Finding
pub mod Seeking
pub mod Waiting
pub mod Unheld
mod Worked
