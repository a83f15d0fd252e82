pub mod Layout
pub mod Placed
pub mod Kept
pub mod View
pub mod Graphs
