pub mod Starts
pub mod Rings
pub mod Rising
mod Worked
