pub mod Lookups
pub mod Worked
pub mod Uses
pub mod Composed
