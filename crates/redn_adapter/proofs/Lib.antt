pub mod Taken
pub mod Quiet
pub mod Delivery
pub mod Lands
pub mod Starts
pub mod Images
pub mod Marking
pub mod Stepping
pub mod Acting
pub mod Keeping
mod Worked
mod WorkedKeeping
pub mod Stale
