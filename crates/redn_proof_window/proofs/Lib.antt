pub mod Below
pub mod Marks
pub mod Orders
pub mod Missed
pub mod Places
pub mod Counters
pub mod Windows
pub mod Stages
pub mod Turns
pub mod Rests
pub mod Gates
pub mod Landings
pub mod Moves
pub mod Ends
pub mod Openings
pub mod Chains
pub mod ChainSides
pub mod Placed
pub mod Raised
pub mod GateQueues
pub mod Sound
mod WorkedWindow
mod WorkedGate
mod WorkedEnding
mod WorkedValue
