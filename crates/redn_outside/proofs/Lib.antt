pub mod FileMaps
mod Worked
