pub mod Idling
pub mod Places
pub mod Simulates
pub mod Doing
pub mod Ends
pub mod Indexes
pub mod Openings
pub mod Building
pub mod Counting
pub mod Statements
pub mod Slots
pub mod Bounded
pub mod Fits
pub mod Whole
pub mod Lists
pub mod Worked
pub mod Equal
pub mod Renumbering
pub mod Finding
pub mod Reaching
pub mod Walking
pub mod Jumping
pub mod Passing
pub mod Kept
pub mod Stopping
pub mod LeadingOn
pub mod NoneIdle
pub mod WorkedBlocks
mod CoreSteps
mod CoreCode
mod CoreMade
mod CoreSearches
pub mod Repeats
