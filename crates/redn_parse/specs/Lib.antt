pub mod Lookahead
pub mod Depth
pub mod Places
pub mod Reads
pub mod Answers
