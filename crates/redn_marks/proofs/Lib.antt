pub mod Seating
pub mod Kept
pub mod Found
pub mod Joining
pub mod Making
mod Worked
