pub mod Cases
pub mod SourceRuns
mod Worked
mod WorkedTables
mod WorkedSound
mod WorkedPrograms
pub mod CoreRuns
pub mod Counters
pub mod WorkedCores
pub mod Uses
pub mod Composing
pub mod Quiet
pub mod Feeds
pub mod Places
pub mod Moves
pub mod Becoming
mod WorkedBecoming
pub mod Statements
