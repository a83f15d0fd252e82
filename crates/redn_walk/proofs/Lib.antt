pub mod Walks
pub mod Worked
pub mod Uses
pub mod Composed
