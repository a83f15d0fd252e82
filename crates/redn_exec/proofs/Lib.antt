pub mod FirstWords
pub mod ReadWords
mod Worked
