pub mod Tasks
pub mod RunView
pub mod StateView
pub mod Starting
pub mod Answered
