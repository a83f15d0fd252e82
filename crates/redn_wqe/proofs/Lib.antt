pub mod FieldPlaces
pub mod Slots
mod Worked
