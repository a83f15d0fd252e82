pub mod Below
pub mod Spaced
pub mod Writable
pub mod Accepted
pub mod Numbered
pub mod Buckets
pub mod Stages
pub mod Steps
pub mod Shown
pub mod Interleaved
pub mod Foretold
pub mod Ended
pub mod Started
mod Worked
mod WorkedRuns
