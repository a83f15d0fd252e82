pub mod Blocks
pub mod Laps
pub mod Counts
pub mod Lists
pub mod Obeys
pub mod Plans
pub mod Programs
pub mod PlanRows
pub mod RowRules
pub mod Sizes
mod Worked
