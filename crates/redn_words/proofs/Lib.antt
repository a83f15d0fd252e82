pub mod Numbers
pub mod Places
pub mod Classes
pub mod Copies
pub mod Missing
pub mod Flights
pub mod Actions
pub mod Others
pub mod Bytes
pub mod Footprints
pub mod Ranges
pub mod Deliveries
pub mod Digits
pub mod Domains
pub mod Runs
pub mod Misfits
pub mod Arguments
pub mod InOrder
pub mod Inside
pub mod Exchanges
pub mod Slots
pub mod Fields
mod Worked
mod WorkedLandings
mod WorkedRuns
mod WorkedEcho
mod WorkedLaws
