pub mod Parts
pub mod MessageTexts
pub mod OneCommand
mod Worked
pub mod Matching
mod WorkedMatch
