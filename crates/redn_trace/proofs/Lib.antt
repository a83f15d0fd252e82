mod Worked
pub mod Printable
