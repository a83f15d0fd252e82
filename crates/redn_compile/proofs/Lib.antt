pub mod Graphs
pub mod Small
mod WorkedUnits
