pub mod Marks
pub mod Seats
