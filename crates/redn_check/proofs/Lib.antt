pub mod Nothing
pub mod Inner
pub mod EarliestOf
pub mod Cases
pub mod Gathered
pub mod Places
pub mod Twice
pub mod Flows
pub mod Breaks
pub mod Behind
pub mod Weighed
pub mod Numbered
pub mod Written
pub mod Accepted
pub mod Earliest
pub mod WrittenOut
mod WorkedRules
mod WorkedProgram
pub mod Carried
pub mod Worded
pub mod SoundNames
pub mod SoundFlow
pub mod SoundStatements
pub mod SoundProgram
