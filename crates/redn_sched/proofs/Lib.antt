pub mod Cuts
pub mod OneReading
pub mod Readings
pub mod Replay
pub mod WorkedBadLines
mod Worked
mod WorkedFair
pub mod Turning
pub mod ChainTurns
pub mod Nearest
pub mod Active
pub mod Rows
pub mod NoAction
pub mod Possible
pub mod Begun
pub mod FedPieces
pub mod Drawing
pub mod MadeEnds
mod WorkedShuffles
mod WorkedPieces
