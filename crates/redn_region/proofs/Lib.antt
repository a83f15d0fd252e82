pub mod Keys
mod Worked
