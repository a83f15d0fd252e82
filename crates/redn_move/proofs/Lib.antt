pub mod Moving
pub mod Replying
pub mod Appended
mod Worked
