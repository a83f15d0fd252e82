pub mod Fields
pub mod Cuts
mod Worked
