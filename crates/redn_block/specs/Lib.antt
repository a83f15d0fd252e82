pub mod Blocks
pub mod Plays
pub mod Matches
