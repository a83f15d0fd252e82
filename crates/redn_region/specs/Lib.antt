pub mod Rows
pub mod Indexed
