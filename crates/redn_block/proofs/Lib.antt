pub mod Spelled
pub mod Cells
pub mod Instrs
pub mod Ends
pub mod Parts
pub mod Whole
pub mod Slots
pub mod Worked
