pub mod Piles
pub mod Turns
pub mod Stepping
pub mod Arguments
pub mod Misfits
pub mod Fresh
pub mod Weights
pub mod First
pub mod Does
pub mod Tables
pub mod Padded
mod WorkedStates
