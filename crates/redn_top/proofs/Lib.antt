pub mod TokenPlaces
pub mod SourceFaults
pub mod RunLemmas
pub mod FirstReason
pub mod Contents
pub mod Found
pub mod MisfitFaults
pub mod MessageWork
pub mod AnyRun
pub mod ImageRuns
pub mod Ending
pub mod Endings
pub mod Generating
pub mod OneReason
pub mod Succeeding
pub mod ListingLines
pub mod MadeRuns
pub mod ScheduleRuns
pub mod SourceEnds
pub mod QuietRuns
pub mod CallsMade
pub mod ComeBack
mod Worked
mod WorkedParts
mod WorkedCalls
