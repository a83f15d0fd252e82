pub mod Landed
pub mod Sides
