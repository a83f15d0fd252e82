pub mod Windows
pub mod Stages
pub mod Moves
pub mod Gateways
pub mod Scripts
pub mod WindowLaws
