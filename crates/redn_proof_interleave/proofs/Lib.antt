pub mod Machines
pub mod Relations
pub mod Leaves
pub mod Views
pub mod Own
pub mod AllChains
pub mod Explained
pub mod Sources
pub mod Headline
pub mod WorkedChains
pub mod WorkedWorld
pub mod WorkedFaithful
pub mod Messages
pub mod GraphMachines
pub mod GraphHeadline
pub mod GraphOrders
pub mod SilentSteps
mod WorkedGraphs
